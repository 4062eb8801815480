pub mod Reversing
pub mod Closing
pub mod Ending
pub mod Listing
pub mod Steps
pub mod SearchLaws
pub mod SearchExamples
pub mod ListingSteps
