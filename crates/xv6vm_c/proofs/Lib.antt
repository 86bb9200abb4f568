mod Permits
mod Steps
mod Walks
