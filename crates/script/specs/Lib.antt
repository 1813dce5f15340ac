pub mod Kept
pub mod Requests
pub mod Asking
pub mod Replies
pub mod Sessions
pub mod Desks
