-- The files of this folder, lowest first.
pub mod Both
pub mod PhasedList
