pub mod MmapEffect
pub mod Runs
pub mod MunmapEffect
