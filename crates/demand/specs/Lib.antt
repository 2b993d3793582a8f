-- The files of this folder, lowest first.
pub mod Names
pub mod Calls
pub mod History
pub mod Serials
pub mod Answers
pub mod Machine
pub mod Demand
pub mod Tickets
pub mod Examples
