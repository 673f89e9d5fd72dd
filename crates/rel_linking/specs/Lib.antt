pub mod Form
pub mod Layout
pub mod Obligation
pub mod Parts
pub mod Scope
pub mod Sorted
