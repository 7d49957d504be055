pub mod Contents
pub mod Packed
pub mod Held
pub mod Sums
pub mod Intake
pub mod Adjusting
pub mod Listing
