mod ProofFiles
pub mod FewSteps
pub mod Numbered
pub mod OneVerdict
pub mod Verdicts
pub mod Endings
