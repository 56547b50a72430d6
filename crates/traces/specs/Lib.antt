pub mod Findings
pub mod Checked
