pub mod Replicas
pub mod Next
pub mod Decisions
pub mod Recovered
pub mod Shown
pub mod Laws
