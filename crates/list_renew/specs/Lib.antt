pub mod Renewal
