pub mod List
pub mod Automaton
pub mod Words
pub mod inner
pub mod Kinds
