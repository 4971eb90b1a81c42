pub mod Advanced
pub mod Carried
pub mod Orders
pub mod Rising
pub mod Words
