-- The files of this folder.
pub mod Bytes
pub mod Tables
