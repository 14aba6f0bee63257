pub mod Next
pub mod Obeying
pub mod Words
pub mod Laid
