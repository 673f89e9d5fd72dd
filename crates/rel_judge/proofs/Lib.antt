mod Numbered
mod FewSteps
mod Sorted
pub mod Verdicts
pub mod Causes
