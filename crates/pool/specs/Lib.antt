pub mod Mills
