pub mod Complete
pub mod OneRun
pub mod Recording
pub mod Spelling
