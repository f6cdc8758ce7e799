pub mod Roles
pub mod Said
