pub mod Codes
pub mod Ends
pub mod Rule
pub mod Tags
pub mod Views
