pub mod Calendar
pub mod TimeBody
pub mod Clock
pub mod Rising
pub mod Time
pub mod TimeText
pub mod Sound
