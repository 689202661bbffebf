pub mod Descent
pub mod Root
pub mod Supply
