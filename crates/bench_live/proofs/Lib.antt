mod Lines
mod Gone
mod Opened
