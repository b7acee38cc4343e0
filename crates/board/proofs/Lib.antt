-- Laws for the functions of the program, and an example of its output.
pub mod Laws
pub mod Example
