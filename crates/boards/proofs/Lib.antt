pub mod Puts
pub mod Means
pub mod Pages
pub mod Fresh
pub mod Moves
pub mod Sums
