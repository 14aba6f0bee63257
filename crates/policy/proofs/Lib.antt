pub mod Width
pub mod WellFormed
pub mod Accepted
pub mod Bytes
pub mod RegionKept
pub mod FieldKept
pub mod Ending
