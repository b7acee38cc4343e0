-- The definitions that the contracts of apply cite.
pub mod Replies
