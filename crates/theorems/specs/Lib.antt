pub mod Terms
pub mod Reading
pub mod Invariant
pub mod Prices
pub mod Notes
pub mod Proofs
