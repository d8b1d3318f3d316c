pub mod Ranged
pub mod Rising
pub mod Agrees
pub mod Made
