pub mod ReachedPage
pub mod Runs
pub mod FirstPageBytes
pub mod CopyOfProcess
pub mod CopyModel
pub mod KernelCopies
