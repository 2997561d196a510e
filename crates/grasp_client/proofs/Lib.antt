mod Copying
mod Answering
