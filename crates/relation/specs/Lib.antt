-- The relation layer: a relation in words, and what start, round, run and question promise.
pub mod Words
pub mod Relation
pub mod Determined
