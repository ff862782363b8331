mod Halves
mod Numbers
mod Places
mod Turns
