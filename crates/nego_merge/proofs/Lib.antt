pub mod MergeEdits
pub mod MergeKeeps
