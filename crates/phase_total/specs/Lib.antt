-- The definitions that the contracts cite, lowest first.
pub mod Rest
pub mod Windows
pub mod Told
pub mod Claims
pub mod Examples
