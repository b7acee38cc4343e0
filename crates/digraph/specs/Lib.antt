-- The definitions that the contracts of digraph cite.
pub mod Rows
pub mod Loops
