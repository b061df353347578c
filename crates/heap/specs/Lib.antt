pub mod Sound
pub mod Sifts
