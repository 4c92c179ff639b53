pub mod LogTold
