-- One answer for each input of each call, by groups.
pub mod Tables
pub mod Lists
