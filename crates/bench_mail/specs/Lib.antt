pub mod Posts
pub mod Mail
pub mod MailCodes
