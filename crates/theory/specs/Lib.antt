-- The mathematics of the classifier, over graphs and an abstract start rule. Nothing here knows of buffers, words or limits.
pub mod Graph
pub mod Simulation
pub mod Rounds
pub mod Order
pub mod Appended
pub mod Common
pub mod Joint
pub mod Growth
pub mod Local
pub mod Reach
pub mod Making
pub mod Bounds
pub mod Growing
