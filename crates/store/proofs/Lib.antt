-- The laws of the store.
pub mod Laws
pub mod Given
pub mod Boards
pub mod Changing
