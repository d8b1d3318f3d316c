pub mod Tables
pub mod Files
pub mod Calls
pub mod Leaving
