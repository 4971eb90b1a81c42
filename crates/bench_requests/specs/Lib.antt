pub mod Status
pub mod Requests
pub mod Apart
pub mod Endings
pub mod Losses
pub mod Listings
pub mod Judging
pub mod Dictionaries
