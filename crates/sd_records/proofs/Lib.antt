mod Entries
mod Exported
mod Imported
mod Lists
mod Making
mod Reading
mod Unfolding
mod Writing
