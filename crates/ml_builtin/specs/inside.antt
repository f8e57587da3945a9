pub mod Meanings
pub mod Orders
pub mod Grounds
pub mod Values
pub mod Faults
pub mod Lists
