mod Acts
mod Going
mod Holding
mod Networks
mod Others
