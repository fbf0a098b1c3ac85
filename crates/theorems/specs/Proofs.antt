-- Proofs of the demands on reads, pages, tables, steps, prices and number 10; those on the other refusals stand in proofs/.
-- Rests on Notes.
pub mod Lists
pub mod Reads
pub mod Ten
pub mod Valid
