mod Places
mod Shown
