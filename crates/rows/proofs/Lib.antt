-- Laws about the definitions of specs/, by subject.
pub mod KeyLaws
pub mod SourceLaws
pub mod MoveLaws
pub mod OpenLaws
