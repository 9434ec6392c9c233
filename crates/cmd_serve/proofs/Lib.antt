mod Whole
mod Between
mod Crosses
mod Lines
mod Opened
mod Owning
mod Queueing
