-- The files of this folder, lowest first.
pub mod Grammar
pub mod Reader
pub mod Meaning
pub mod Claims
