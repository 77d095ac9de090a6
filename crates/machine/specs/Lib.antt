pub mod Program
pub mod Machine
pub mod Record
pub mod Extended
pub mod Words
pub mod inner
