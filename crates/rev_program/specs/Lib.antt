pub mod Folders
pub mod Visible
