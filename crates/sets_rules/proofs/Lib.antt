pub mod Overflow
pub mod Arithmetic
pub mod Powers
pub mod Shifts
pub mod Offsets
pub mod Differences
pub mod Exact
pub mod Rounding
