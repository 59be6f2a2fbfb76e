pub mod OneRun
pub mod EverySchedule
pub mod Stamps
