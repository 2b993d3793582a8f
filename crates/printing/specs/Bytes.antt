-- Texts as bytes.
pub use Rattle.constants.specs.Bytes.{bytes}
