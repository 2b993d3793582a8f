-- The files of this folder, lowest first.
pub mod Groups
pub mod Marks
