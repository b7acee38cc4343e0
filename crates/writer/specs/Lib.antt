-- What the writer of request lines writes, and the laws of writing and reading.
pub mod Writer
pub mod Rows
pub mod Law
