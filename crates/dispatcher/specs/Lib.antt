-- The files of this folder, lowest first.
pub mod Dispatch
pub mod ByLine
