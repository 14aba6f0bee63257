pub mod Table
pub mod Search
pub mod Numbers
pub mod Signed
pub mod Field
pub mod Read
pub mod Laws
