-- The rules of the lock board, as definitions that compute.
pub mod Modes
pub mod Boards
pub mod Orders
pub mod Soundness
pub mod Settling
pub mod Replies
pub mod Checks
pub mod Calls
pub mod Digraph
pub mod Worked
