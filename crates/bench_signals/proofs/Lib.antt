mod Cells
mod Counted
mod Keeping
mod Listed
mod Noted
mod Parts
mod Printed
mod Written
