pub mod Stronger
pub mod Undeclared
pub mod Answer
pub mod Tables
