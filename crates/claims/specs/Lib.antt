-- Every definition that the claims speak of, and where it is.
pub mod Definitions
-- The rows of the table of the proved cases P1 to P10.
pub mod Cases
