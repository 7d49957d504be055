pub mod Lawful
pub mod Format
