-- The definitions that the contracts of search cite.
pub mod Counts
pub mod Rows
pub mod Gives
pub mod Stages
