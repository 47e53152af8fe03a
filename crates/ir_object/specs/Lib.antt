pub mod Word
pub mod Cell
pub mod Empty
pub mod Order
pub mod Layout
pub mod Standing
