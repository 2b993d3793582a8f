-- The files of this folder, lowest first.
pub mod Complete
pub mod Sound
pub mod Readings
