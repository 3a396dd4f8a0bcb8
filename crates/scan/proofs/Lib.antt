-- Laws about the definitions of specs/, by subject.
pub mod BestLaws
pub mod ScanLaws
