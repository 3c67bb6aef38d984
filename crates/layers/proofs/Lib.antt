pub mod Seeking
pub mod Filling
pub mod Slopes
pub mod Neighbours
pub mod Lending
