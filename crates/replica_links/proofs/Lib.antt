mod Lists
mod Kept
mod Parted
mod Joined
