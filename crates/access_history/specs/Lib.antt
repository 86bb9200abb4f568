pub mod Examples
pub mod Harts
pub mod Held
pub mod History
pub mod Parts
pub mod Permits
pub mod Walks
