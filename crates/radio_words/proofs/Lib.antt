-- `Back` has that what comes back of a state's words is the state. The others are for the functions.
pub mod Lists
pub mod Calls
pub mod Back
