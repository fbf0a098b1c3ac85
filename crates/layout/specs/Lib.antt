use Rattle.rulebook.specs.declared.Sizes.{Sizes}
pub mod Parts
pub mod Rows
pub mod Places
pub mod Header
pub mod Pool
pub mod Sizing
pub mod Ways
pub mod Lends
pub mod Does
pub mod Opens
pub mod Keeps
pub mod Raw
pub mod Ranges
pub mod View
pub mod Acts
pub mod Opened
pub mod Calls
