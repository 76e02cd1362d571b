pub mod Beside
pub mod Dependence
pub mod Firsts
pub mod Laws
pub mod Links
pub mod Noted
pub mod Several
pub mod Ways
