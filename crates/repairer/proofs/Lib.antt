pub mod Along
pub mod ColumnLaws
pub mod Counting
pub mod FrameLaws
pub mod Marks
pub mod Numbers
pub mod Unmarked
pub mod Answers
