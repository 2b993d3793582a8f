-- The definitions that the contracts cite, lowest first.
pub mod Rounding
pub mod Components
pub mod Answers
