mod Forms
mod Lists
mod Named
mod Numbers
mod Walks
pub mod TextFaults
