pub mod Decodable
pub mod Inside
pub mod FromLabels
