mod Digits
mod Ends
mod Words
mod Starts
mod Sums
mod Texts
