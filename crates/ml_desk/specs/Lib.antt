pub mod Deaths
pub mod SealedSession
pub mod Sealing
