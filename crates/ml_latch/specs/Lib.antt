pub mod Lists
pub mod Place
pub mod Rule
pub mod Seat
pub mod Steps
pub mod Turn
pub mod View
