-- The laws of written lines, and a table of them.
pub mod Laws
pub mod Law
pub mod Cases
