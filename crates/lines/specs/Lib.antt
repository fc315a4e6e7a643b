pub mod Apply
pub mod Line
