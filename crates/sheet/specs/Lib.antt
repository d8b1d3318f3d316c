pub mod Index
pub mod Meaning
pub mod Forbid
pub mod Empties
pub mod Rules
pub mod Laws
pub mod Judged
pub mod Sound
