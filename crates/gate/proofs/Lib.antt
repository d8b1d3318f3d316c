pub mod Ledgers
pub mod Agreeing
pub mod Links
pub mod Following
pub mod Leaving
pub mod Fresh
