pub mod Doubling
pub mod Refused
pub mod Vertex
