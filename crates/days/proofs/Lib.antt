pub mod Rules
pub mod Ranges
pub mod Asked
pub mod Made
