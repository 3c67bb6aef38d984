pub mod Gap
pub mod GapPage
pub mod Reserve
pub mod ReservePage
