pub mod Call
pub mod Legal
pub mod Map
pub mod Near
pub mod Refusal
pub mod Request
