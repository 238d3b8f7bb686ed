mod Parities
mod Meetings
mod Passings
