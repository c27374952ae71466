pub mod Endpoint
