pub mod Meaning
pub mod Shown
pub mod Caps
pub mod Sets
pub mod Orders
pub mod Pairs
pub mod Narrows
pub mod Leaving
