mod Places
mod Steps
mod Cuts
mod Sayings
mod Going
mod Found
mod Only
mod Refused
