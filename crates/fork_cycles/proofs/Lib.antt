mod Examples
mod Paths
mod SetMarks
mod Steps
