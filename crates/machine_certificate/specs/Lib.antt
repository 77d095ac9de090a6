pub mod Certificate
pub mod Words
pub mod inner
