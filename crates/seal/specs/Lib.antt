pub mod Faults
pub mod Seals
pub mod Schemes
pub mod Schemed
pub mod BenchSealingLemmas
pub mod Combined
pub mod StreetSealingLemmas
