pub mod Next
pub mod One
pub mod Place
