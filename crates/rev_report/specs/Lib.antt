pub mod Answers
pub mod Dependents
pub mod Report
pub mod Runs
