-- Worked examples, as one list with one proof over the definitions.
pub mod Rounds
pub mod Files
