pub mod Commands
pub mod HelpText
pub mod Session
pub mod Shown
pub mod Answering
pub mod FaultText
