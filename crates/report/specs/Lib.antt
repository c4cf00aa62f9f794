-- What the programs print, as bytes.
pub mod Text
pub mod Listing
pub mod Given
pub mod Pages
