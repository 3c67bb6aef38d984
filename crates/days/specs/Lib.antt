pub mod Layers
pub mod Lines
pub mod Lowest
pub mod Days
pub mod Bounds
pub mod Questions
pub mod Told
pub mod Tabled
