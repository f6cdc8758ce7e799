pub mod Inside
pub mod Hmac
pub mod Feeding
pub mod Algorithms
