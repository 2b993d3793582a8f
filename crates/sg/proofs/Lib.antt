-- The files of this folder, lowest first.
pub mod Codes
pub mod Pieces
pub mod Stored
pub mod Told
pub mod Words
pub mod Agreement
pub mod Nine
pub mod Scanning
pub mod Loop
