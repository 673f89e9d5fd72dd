pub mod List
pub mod Boxed
