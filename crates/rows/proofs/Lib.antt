pub mod Digits
pub mod Lawfully
pub mod Written
pub mod Found
pub mod Fronts
