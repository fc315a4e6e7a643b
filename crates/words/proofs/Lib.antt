pub mod Lent
pub mod Splice
pub mod WordLaws
pub mod AgreeLaws
pub mod RuleLaws
pub mod BeyondLaws
pub mod RangeLaws
pub mod RefusalLaws
