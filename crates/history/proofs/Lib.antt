pub mod Stores
pub mod CommitStore
pub mod CommitFound
pub mod CommitRule
pub mod UndoSteps
pub mod UndoBooks
