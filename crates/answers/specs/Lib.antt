pub mod Answered
pub mod Files
