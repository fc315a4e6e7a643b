pub mod Shape
pub mod Refusal
pub mod Kind
pub mod Width
pub mod Read
pub mod Outcome
pub mod Write
