pub mod Numbers
pub mod Readings
pub mod Records
pub mod Sheets
pub mod Values
pub mod Walks
