pub mod Lowest
pub mod Passed
pub mod Chunks
