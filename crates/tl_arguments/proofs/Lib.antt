mod Examples
pub mod Laws
pub mod ProgressLemmas
pub mod StepLemmas
