pub mod Alone
pub mod Differences
pub mod Earlier
pub mod Inverted
pub mod Lasts
pub mod Matched
pub mod Statements
pub mod Twins
