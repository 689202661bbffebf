mod Contents
mod Deciding
mod Giving
mod Seating
mod Stepping
mod Turning
