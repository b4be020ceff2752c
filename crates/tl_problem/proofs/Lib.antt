mod AgreementExamples
mod AreaExamples
mod BoundExamples
mod Examples
mod PlacementExamples
mod ShareExamples
pub mod AreaFound
pub mod AreaLaws
pub mod AreaSteps
pub mod AxisLemmas
pub mod BoundLaws
pub mod ConstraintLemmas
pub mod DemandLemmas
pub mod Heights
pub mod NeedLemmas
pub mod OneClass
pub mod Rectangles
pub mod SetLaws
pub mod ShareLaws
pub mod SameSteps
pub mod SharedSums
pub mod Soundness
pub mod SpanLaws
pub mod SpanningLemmas
pub mod TightLaws
pub mod WorkLemmas
pub mod ZoneLaws
pub mod ZoneSizes
