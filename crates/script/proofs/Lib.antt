-- The laws of words, numbers and readers, and what the proofs of the functions cite.
pub mod WordLaws
pub mod NumberLaws
pub mod GroupLaws
pub mod TextLaws
pub mod ReadBack
