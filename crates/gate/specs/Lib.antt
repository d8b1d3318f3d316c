pub mod Words
pub mod Ledger
pub mod Chains
pub mod Promise
