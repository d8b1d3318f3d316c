pub mod Carried
pub mod Places
pub mod Steps
pub mod Started
pub mod Going
pub mod Together
