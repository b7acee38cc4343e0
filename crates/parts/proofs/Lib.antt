-- What is proved of the parts.
pub mod Laws
pub mod Lined
