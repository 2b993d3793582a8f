-- The files of this folder, lowest first.
pub mod Codes
pub mod Machine
