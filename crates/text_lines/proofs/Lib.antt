pub mod Cutting
pub mod Decimals
pub mod GrammarLemmas
pub mod LawLemmas
pub mod Numbers
pub mod Sending
pub mod ValueLemmas
pub mod WordLemmas
