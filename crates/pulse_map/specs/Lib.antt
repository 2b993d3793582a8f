-- The definitions that the contracts cite, lowest first.
pub mod Map
pub mod Words
pub mod Pulses
pub mod Refusals
pub mod Answers
pub mod Told
pub mod Examples
