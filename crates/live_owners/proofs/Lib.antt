mod Looked
mod Steps
