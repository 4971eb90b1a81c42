mod Back
mod Decimals
mod Digits
mod Signs
