pub mod Counting
pub mod FigureText
pub mod Figures
pub mod Latest
pub mod Sheets
pub mod Values
