-- The files of this folder, lowest first.
pub mod Names
pub mod Refusals
pub mod Rulings
pub mod OnePass
pub mod Cancelled
