pub mod Admits
pub mod Changing
pub mod Lengths
pub mod Lists
pub mod Makes
pub mod Settles
