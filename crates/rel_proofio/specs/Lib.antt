pub mod Parts
pub mod Words
pub mod Trees
pub mod Table
pub mod Steps
pub mod ProofFile
