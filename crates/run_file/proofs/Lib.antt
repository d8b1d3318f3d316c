pub mod Fronts
pub mod Said
