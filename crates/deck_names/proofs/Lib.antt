mod Defining
mod Entered
mod Firsts
mod Repetitions
