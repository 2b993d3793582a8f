-- The laws of parts of a buffer, of line feeds in them, and of moving them.
pub mod PartLaws
pub mod FeedLaws
pub mod SqueezeLaws
pub mod RoomLaws
