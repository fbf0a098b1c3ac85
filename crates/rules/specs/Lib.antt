pub mod Rules
pub mod Erase
pub mod Blind
pub mod Paced
