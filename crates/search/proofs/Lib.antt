-- Laws about the definitions of specs/, by subject, and an example.
pub mod ModelLaws
pub mod RunLaws
pub mod Example
