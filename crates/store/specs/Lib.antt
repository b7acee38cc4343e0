-- The definitions that the contracts of store cite.
pub mod Sets
pub mod Store
