-- The files of this folder, lowest first.
pub mod Gathering
pub mod Waiting
