mod Words
mod Growing
mod Turns
mod Links
mod Asks
mod Answered
mod Lines
mod Summing
