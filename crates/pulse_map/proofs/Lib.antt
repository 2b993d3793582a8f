-- The laws of pulse maps, and what the proofs of the functions cite.
pub mod Laws
pub mod Prefix
pub mod Words
pub mod Table
pub mod Refusals
pub mod Intervals
