pub mod Exp
pub mod Grammar
pub mod Records
pub mod Acceptor
pub mod Means
pub mod Examples
pub mod inner
