mod Cut
mod Digits
mod Texts
