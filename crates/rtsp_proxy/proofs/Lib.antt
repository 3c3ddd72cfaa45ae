mod Addresses
mod Lines
mod Staying
mod Written
