-- The files of this folder, lowest first.
pub mod Card
pub mod Reading
pub mod Claims
pub mod Lending
pub mod Examples
