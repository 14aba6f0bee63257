pub mod Computed
pub mod Trials
