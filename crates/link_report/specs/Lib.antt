pub mod LogReport
