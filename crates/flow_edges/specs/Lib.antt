pub mod Transfer
pub mod Edge
