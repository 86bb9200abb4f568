pub mod Family
pub mod Ready
