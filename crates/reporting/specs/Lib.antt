pub mod Follow
pub mod Fraction
pub mod Report
pub mod Reports
pub mod Steps
pub mod Stream
