pub mod Marks
pub mod DataText
pub mod RampText
pub mod ControllerText
pub mod SourceRows
pub mod StateText
