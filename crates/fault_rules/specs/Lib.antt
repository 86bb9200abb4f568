pub mod MadeResident
pub mod PageService
pub mod Serves
pub mod SettlePage
pub mod TakeOver
