pub mod UnitsOpen
pub mod WidestSoFar
pub mod BecomingSteady
pub mod RecordsSteady
pub mod OneReading
pub mod ReadingSteady
pub mod FitLaws
pub mod Refusing
pub mod OneFit
mod Examples
