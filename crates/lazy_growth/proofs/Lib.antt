pub mod SizeRefusals
pub mod Resizing
