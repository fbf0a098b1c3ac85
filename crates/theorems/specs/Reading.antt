-- A get, step by step, beside the writes of other tasks: it answers what its handle sees.
-- Rests on the rule book's definitions.
pub mod Search
pub mod Get
pub mod Append
