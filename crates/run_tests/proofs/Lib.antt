mod Along
mod Ended
