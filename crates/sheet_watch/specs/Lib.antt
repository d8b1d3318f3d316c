pub mod Watching
pub mod Leaving
