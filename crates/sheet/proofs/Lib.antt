pub mod Groups
pub mod Names
pub mod Bodies
pub mod Ends
pub mod Laws
pub mod Matches
pub mod Readings
