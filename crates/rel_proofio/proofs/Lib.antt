pub mod Integers
pub mod Found
pub mod Reading
pub mod Loops
pub mod Files
pub mod Floats
