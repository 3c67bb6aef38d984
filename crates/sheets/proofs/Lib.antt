mod Handed
mod Due
pub mod Lines
mod Tabled
mod Ends
mod Fields
mod Spelled
mod Exact
mod Accepted
mod Meant
mod Verdicts
pub mod Standing
