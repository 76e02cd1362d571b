pub mod Answers
pub mod Fault
pub mod Origins
pub mod Resolved
pub mod Told
