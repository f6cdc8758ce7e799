pub mod Buffers
pub mod Reading
pub mod ReadingLaws
pub mod Inside
