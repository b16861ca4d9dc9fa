mod Aliases
mod Numbering
mod Counted
mod Selected
