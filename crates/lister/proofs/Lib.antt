pub mod Smallest
pub mod Closing
pub mod Answering
