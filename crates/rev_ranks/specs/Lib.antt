pub mod Graph
pub mod Sets
pub mod Certificate
pub mod Walks
pub mod Laws
pub mod Leads
