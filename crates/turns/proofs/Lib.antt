mod Cutting
mod Digits
