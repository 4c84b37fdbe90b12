mod HeldPlaces
pub mod Giving
pub mod Meant
mod Sums
mod Paying
pub mod Taking
pub mod Staying
mod Playing
mod Parting
mod Due
mod EndAnswers
mod Telling
pub mod Standing
pub mod Results
pub mod Holding
pub mod Making
pub mod Asking
mod Searching
mod Looping
