mod Among
mod Digits
mod Named
mod Prefixes
mod Ranges
