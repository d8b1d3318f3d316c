pub mod Firing
pub mod Search
pub mod Ledgers
pub mod Worked
