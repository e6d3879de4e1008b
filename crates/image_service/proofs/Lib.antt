mod Back
mod Refused
