-- The definitions that the contracts cite, lowest first.
pub mod Bytes
pub mod Text
pub mod Room
pub mod Examples
pub mod Answers
