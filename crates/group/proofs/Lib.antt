-- The files of this folder, lowest first.
pub mod MarkLaws
pub mod RateLaws
pub mod AskLaws
