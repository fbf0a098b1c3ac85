-- What is noted over the calls agrees with the store, and is right.
-- Rests on Invariant and Prices.
pub mod Tables
pub mod Told
pub mod Version
pub mod Fair
pub mod Stages
pub mod Step
pub mod Calls
