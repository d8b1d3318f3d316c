pub mod Traces
pub mod Arrays
