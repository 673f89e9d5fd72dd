pub mod Weigh
pub mod Sound
pub mod Combine
pub mod TermForms
pub mod NextForms
pub mod Sums
pub mod Stacks
pub mod Exact
