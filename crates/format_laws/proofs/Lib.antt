-- Laws of the format's definitions that several crates cite. Read in this order.
pub mod Keys
pub mod Lists
pub mod Names
pub mod Numbers
pub mod Orders
pub mod Readings
pub mod Refusals
pub mod Tests
pub mod Texts
