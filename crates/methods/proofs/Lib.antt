-- The files of this folder, lowest first.
pub mod Methods
pub mod CardMethods
