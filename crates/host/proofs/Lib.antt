pub mod Filling
pub mod Counting
