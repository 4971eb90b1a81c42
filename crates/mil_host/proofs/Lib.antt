pub mod Printed
pub mod Spacing
pub mod ReadingBack
