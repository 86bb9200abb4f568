mod Entries
mod Examples
mod Found
mod Listed
mod OneListing
mod Pages
mod Wide
