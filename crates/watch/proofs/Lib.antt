pub mod Digits
pub mod Tables
pub mod Following
pub mod Ordered
