mod Following
mod Fitting
mod Verdicts
mod Saying
