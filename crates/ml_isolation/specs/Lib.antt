pub mod Places
pub mod Logs
pub mod Notes
pub mod inside
