pub mod Words
pub mod Moves
pub mod Filled
pub mod Complete
pub mod Sound
pub mod Following
pub mod Negatives
