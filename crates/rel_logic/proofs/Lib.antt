pub mod Scopes
pub mod Values
pub mod Answered
pub mod Sorts
pub mod Stable
pub mod Kept
pub mod SameTrees
