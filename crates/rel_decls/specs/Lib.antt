pub mod Declarations
pub mod Specifications
pub mod Procedures
pub mod Alignments
pub mod Items
pub mod Faults
pub mod Laws
