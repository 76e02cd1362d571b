pub mod Assured
