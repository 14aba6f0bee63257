pub mod Scratch
pub mod Sets
pub mod Memory
pub mod Parts
pub mod Starts
