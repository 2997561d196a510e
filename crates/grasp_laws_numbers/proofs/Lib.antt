mod InUse
mod Next
