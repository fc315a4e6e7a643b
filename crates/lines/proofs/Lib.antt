pub mod LineLaws
pub mod ApplyLaws
