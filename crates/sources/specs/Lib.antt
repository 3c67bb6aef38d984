pub mod Page
pub mod Rounding
