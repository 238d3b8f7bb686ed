mod Digits
mod FirstFault
mod Joined
