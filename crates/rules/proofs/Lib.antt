pub mod Logs
pub mod Kept
pub mod Facts
pub mod Steps
pub mod Calls
