mod Rows
mod Passed
mod Begins
mod Woven
mod Settles
