pub mod Plans
pub mod Appends
