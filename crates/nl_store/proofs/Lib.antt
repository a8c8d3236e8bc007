mod Copies
mod Cutting
mod Holds
mod Lists
mod Rosters
mod Tallies
mod Unowned
