pub mod Rules
pub mod Pile
pub mod Answers
pub mod Stack
pub mod Laws
pub mod Taken
pub mod Outcomes
