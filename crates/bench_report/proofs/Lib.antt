pub mod ListLemmas
pub mod PrintLemmas
pub mod Drafted
pub mod Taken
pub mod PrintedSpells
pub mod FirstFaults
pub mod ReadLines
