pub mod Quotes
pub mod Mean
pub mod Board
pub mod Quoting
