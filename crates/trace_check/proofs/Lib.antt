mod Lists
mod Splitting
mod Replaying
mod Judging
mod Sharing
