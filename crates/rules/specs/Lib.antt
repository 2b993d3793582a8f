-- The files of this folder, lowest first.
pub mod Rules
pub mod Carried
