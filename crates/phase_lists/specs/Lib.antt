-- The files of this folder, lowest first.
pub mod Lists
pub mod Tables
