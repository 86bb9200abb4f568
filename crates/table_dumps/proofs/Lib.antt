mod Found
mod Listed
mod Mapped
mod OneListing
mod Pages
mod Ways
