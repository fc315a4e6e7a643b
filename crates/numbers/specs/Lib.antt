pub mod Bytes
pub mod Signed
pub mod SameBits
