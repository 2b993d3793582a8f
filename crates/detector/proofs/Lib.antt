-- The root of the proofs: the functions' laws first, then the claims on every list of calls.
pub mod Same
pub mod Coupling
pub mod Lri
pub mod Events
pub mod Claims
