-- The definitions that the contracts cite, lowest first.
pub mod Spans
pub mod Squeezing
pub mod Rooms
pub mod Reads
pub mod Examples
