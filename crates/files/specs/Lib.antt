-- The definitions that the contracts of files cite.
pub mod Bits
pub mod Sets
pub mod Words
