-- The files of this folder, lowest first.
pub mod Ranges
pub mod Tariffs
