pub mod HartHistories
pub mod MachineEvents
pub mod MachineStates
pub mod RunHistories
pub mod SettledTables
pub mod UserAccesses
