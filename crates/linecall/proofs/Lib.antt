-- The laws of the line call, and 01's session through it.
pub mod Laws
pub mod Carries
pub mod Session
