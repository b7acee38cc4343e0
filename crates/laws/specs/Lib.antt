-- Laws of tests, lists and tables.
pub mod Tests
pub mod Lists
pub mod Laws
pub mod Tables
