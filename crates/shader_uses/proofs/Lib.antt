pub mod GlobalsRead
pub mod Maxima
pub mod Refusals
pub mod Vertex
