-- The files of this folder.
pub mod Due
