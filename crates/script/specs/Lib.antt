-- The definitions that the contracts cite, lowest first.
pub mod Words
pub mod Numbers
pub mod Readers
pub mod Runs
pub mod Commands
pub mod Cards
pub mod Told
pub mod Examples
