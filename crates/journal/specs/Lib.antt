pub mod Decimal
pub mod Grammar
pub mod Speech
pub mod Spelling
pub mod Wording
