pub mod Outcomes
pub mod Hosting
pub mod Boards
pub mod Spools
pub mod Meaning
