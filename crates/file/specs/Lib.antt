-- The table file: its blocks, its layout, and what is wrong with a byte string.
pub mod Block
pub mod Layout
pub mod Reading
pub mod Calls
pub mod Lengths
