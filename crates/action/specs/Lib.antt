pub mod Ranges
pub mod Bytes
pub mod Deeds
pub mod Calls
pub mod Traces
pub mod Low
