-- The files of this folder.
pub mod PhaseTables
pub mod FirstPlaces
