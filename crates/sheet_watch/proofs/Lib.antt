pub mod Noted
pub mod Rehearsed
