pub mod Layout
pub mod Grammar
pub mod Views
