-- The files of this folder: rules on plain numbers, the state level, the history level, and the claims that join both.
pub mod Values
pub mod Request
pub mod Notice
pub mod State
pub mod History
pub mod Run
pub mod Claims
