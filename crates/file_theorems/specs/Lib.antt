-- A byte string is accepted exactly if it is the layout's file of an allowed table; reading and writing undo each other.
pub mod Blocks
pub mod Passing
pub mod Places
pub mod Reading
pub mod Writing
pub mod Accepted
