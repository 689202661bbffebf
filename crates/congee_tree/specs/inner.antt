pub mod Place
pub mod Step
