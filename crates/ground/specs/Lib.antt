-- What everything else is said in: tests and counts over the numbers below a bound, relations, lists by index, runs of lists, bits of words, bytes of numbers.
-- Nothing here knows of tables or graphs.
pub mod Tests
pub mod Search
pub mod Counts
pub mod Relations
pub mod Lists
pub mod Runs
pub mod Bits
pub mod Bytes
