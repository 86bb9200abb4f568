pub mod Histories
pub mod ShelfStates
