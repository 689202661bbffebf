mod Looked
mod Moving
mod Tried
