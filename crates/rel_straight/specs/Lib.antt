pub mod Linear
pub mod Forms
pub mod Rules
pub mod Stack
