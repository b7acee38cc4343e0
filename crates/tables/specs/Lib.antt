-- The definitions that the contracts of tables cite.
pub mod ProgramSets
pub mod Shared
pub mod Tables
pub mod Boards
