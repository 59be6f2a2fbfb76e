mod Links
mod Shares
mod Sizes
