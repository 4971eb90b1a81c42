pub mod Days
pub mod Bodies
pub mod Rises
pub mod Rulings
pub mod Halves
pub mod Streamed
