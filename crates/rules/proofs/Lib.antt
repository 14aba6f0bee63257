pub mod RightResult
pub mod Writes
pub mod RightReach
pub mod LowestField
pub mod Narrowed
pub mod Numbered
pub mod Placed
