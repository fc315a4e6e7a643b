pub mod DecimalLaws
pub mod TextLaws
pub mod LineLaws
pub mod OutputLaws
pub mod Cases
