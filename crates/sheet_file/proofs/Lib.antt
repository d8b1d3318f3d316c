pub mod Fills
pub mod RowsRead
pub mod Verdicts
pub mod Empties
