pub mod LabelText
pub mod LabelOrder
pub mod Edits
pub mod Inside
