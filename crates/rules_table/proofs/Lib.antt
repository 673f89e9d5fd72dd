pub mod Closed
pub mod Closing
