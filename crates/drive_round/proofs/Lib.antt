pub mod Places
pub mod Threads
pub mod Seats
pub mod Gathering
pub mod Crossing
pub mod Sharing
pub mod Turning
pub mod Playing
