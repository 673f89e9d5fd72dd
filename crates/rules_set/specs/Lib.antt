pub mod Table
pub mod Regions
pub mod Law
