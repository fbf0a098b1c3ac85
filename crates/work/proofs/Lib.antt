pub mod Doing
pub mod Seen
pub mod Stages
