mod Joining
mod Widgets
