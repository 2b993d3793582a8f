-- The files of this folder, lowest first.
pub mod Rows
pub mod Round
pub mod Gather
pub mod Kept
pub mod Group
pub mod Run
pub mod Heard
pub mod Demand
pub mod Lending
