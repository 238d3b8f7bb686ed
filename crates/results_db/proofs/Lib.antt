mod Joined
mod Steps
