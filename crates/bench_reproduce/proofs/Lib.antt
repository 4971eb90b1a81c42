pub mod Alike
pub mod Beside
pub mod Inside
pub mod Keeping
