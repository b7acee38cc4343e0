-- The definitions that the contracts of linecall cite.
pub mod LineCall
