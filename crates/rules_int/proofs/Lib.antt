pub mod Progress
pub mod Places
pub mod Multiples
pub mod Joins
pub mod TermForms
pub mod Summing
pub mod Comparing
pub mod Closing
