-- The files of this folder, lowest first.
pub mod Rest
pub mod Nearest
pub mod Sound
pub mod WindowLaws
pub mod Counted
pub mod Taken
pub mod Claims
