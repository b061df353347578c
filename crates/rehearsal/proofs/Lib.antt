pub mod Advancing
pub mod Arguments
pub mod Playing
