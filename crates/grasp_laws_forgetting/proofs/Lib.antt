mod Forgetting
mod Replies
