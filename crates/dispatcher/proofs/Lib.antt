-- The files of this folder, lowest first.
pub mod TurnLaws
pub mod RowLaws
