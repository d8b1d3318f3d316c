pub mod Next
pub mod Followers
pub mod Words
pub mod Accepts
pub mod Laws
