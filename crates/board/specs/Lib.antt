-- What the program's input does, and its output.
pub mod Input
pub mod Parts
