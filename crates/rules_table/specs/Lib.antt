pub mod Nodes
pub mod Table
pub mod View
pub mod Models
pub mod Law
