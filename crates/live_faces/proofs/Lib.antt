mod Asked
mod ManyInserted
mod Turned
