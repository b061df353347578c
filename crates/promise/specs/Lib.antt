pub mod Account
pub mod Carrying
pub mod Feasible
pub mod Kept
pub mod Promised
