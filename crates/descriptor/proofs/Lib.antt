-- The files of this folder, lowest first.
pub mod Causes
pub mod Table
pub mod OnePass
pub mod Rulings
