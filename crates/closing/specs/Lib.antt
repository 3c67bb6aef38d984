pub mod Answers
pub mod Carried
pub mod Markets
pub mod Pages
pub mod Lending
pub mod Printed
