pub mod Listing
pub mod Copied
