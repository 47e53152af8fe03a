pub mod WhatIf
pub mod Rests
pub mod Watch
pub mod Lines
pub mod Stale
