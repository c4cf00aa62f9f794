-- The table in memory: its limits, what the lent slices mean, what is wrong with it, and the answers of a call.
pub mod Limits
pub mod Answer
pub mod Lent
pub mod Check
pub mod Allowed
pub mod Edges
pub mod Places
pub mod Determined
