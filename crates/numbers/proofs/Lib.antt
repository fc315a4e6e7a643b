pub mod SignedLaws
pub mod NumberLaws
