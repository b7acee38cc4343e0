-- The laws of whole boards.
pub mod Laws
