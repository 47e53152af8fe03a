mod Filtered
mod NeedLists
mod Gathered
mod Linked
mod Said
mod Within
mod Waited
mod Earlier
