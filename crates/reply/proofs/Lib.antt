-- The laws of replies.
pub mod Laws
