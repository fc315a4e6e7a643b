pub mod Layout
pub mod Words
pub mod Rule
pub mod Agree
pub mod Range
pub mod Part
pub mod Refusal
