pub mod Stepped
pub mod Reach
