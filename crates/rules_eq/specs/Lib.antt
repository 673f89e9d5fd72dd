pub mod Table
pub mod Elements
pub mod Law
