-- What the functions of this crate lean on: Laws has the steps of one record, Records all of them, Showing the record that is shown.
pub mod Examples
pub mod Laws
pub mod Records
pub mod Showing
