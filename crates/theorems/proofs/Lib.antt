pub mod Demands
pub mod Causes
pub mod Follows
pub mod Progress
