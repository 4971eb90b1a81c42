pub mod Reports
pub mod Lines
pub mod Spelling
pub mod Faults
pub mod Printing
pub mod Drafts
