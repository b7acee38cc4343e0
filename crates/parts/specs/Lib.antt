-- The definitions that the contracts of parts cite.
pub mod Entries
pub mod Modes
