-- The laws of digits, of what has room in a text, and of the lengths of texts.
pub mod DigitLaws
pub mod RoomLaws
pub mod LengthLaws
