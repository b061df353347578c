pub mod Codes
pub mod Lines
pub mod Opened
pub mod Rehearsals
pub mod Scripts
pub mod Turns
