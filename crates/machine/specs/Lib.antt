pub mod Firing
pub mod Suited
pub mod Pairs
pub mod Charts
pub mod Going
