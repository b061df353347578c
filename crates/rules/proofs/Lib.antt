pub mod Admitting
pub mod Changing
pub mod Passing
