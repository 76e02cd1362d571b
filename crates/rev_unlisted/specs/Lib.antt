pub mod Follows
pub mod Unlisted
pub mod Answer
pub mod Found
pub mod Joined
pub mod Always
