pub mod Holding
pub mod Agreeing
pub mod Stepping
pub mod Running
