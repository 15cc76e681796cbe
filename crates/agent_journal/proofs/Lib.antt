pub mod FileLaws
pub mod GrowthLaws
pub mod ListLaws
pub mod LoadLaws
pub mod PutCalls
pub mod PutLaws
pub mod RepairCalls
