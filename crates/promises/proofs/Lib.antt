-- The proofs of the promises.
-- Rests on Promises.
pub mod Calls
pub mod Refusals
pub mod One
pub mod Numbers
pub mod Histories
pub mod Two
pub mod Three
pub mod Checked
pub mod All
pub mod Useless
