pub mod Still
mod Items
mod Lines
