pub mod Sound
pub mod Piles
pub mod Taking
pub mod Exact
