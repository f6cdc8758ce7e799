pub mod Tokens
pub mod Lexing
pub mod Times
pub mod Copies
pub mod Inside
