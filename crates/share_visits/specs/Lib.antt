pub mod Charged
pub mod Near
pub mod Visits
pub mod Whole
pub mod Written
pub mod inner
