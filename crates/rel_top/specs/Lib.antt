pub mod ProofFile
pub mod Report
pub mod Headline
pub mod Verdict
pub mod Ending
pub mod Judged
