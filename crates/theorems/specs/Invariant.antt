-- What holds of a store between any two calls, and that every call keeps it.
-- Rests on Reading.
pub mod Shape
pub mod Tasks
pub mod Moves
pub mod Entries
pub mod Facts
pub mod Blocks
pub mod Readings
pub mod Sets
pub mod Fills
pub mod Steps
pub mod Calls
pub mod Sizes
