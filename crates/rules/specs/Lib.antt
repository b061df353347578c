pub mod Admission
pub mod Changes
pub mod Jobs
pub mod Phases
pub mod Refusals
pub mod Sound
pub mod Tasks
pub mod Withdrawals
