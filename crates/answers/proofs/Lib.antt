pub mod Submitting
pub mod Mapped
