pub mod Ranges
pub mod WrittenIsRead
pub mod ReadIsWritten
