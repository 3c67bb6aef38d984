mod Called
mod Shown
