pub mod formers
pub mod References
pub mod Regions
pub mod Pairs
pub mod Maps
