pub mod Indexes
pub mod Callees
pub mod Firsts
pub mod FoundJudgements
pub mod BiFirsts
