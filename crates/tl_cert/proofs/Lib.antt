mod Examples
mod AppendedExamples
pub mod Appending
pub mod AppendedLaws
pub mod CountLaws
pub mod CutParts
pub mod FireLaws
pub mod LogLaws
pub mod Loops
pub mod OneText
pub mod Origins
pub mod ReadResults
pub mod TextExamples
pub mod TextSizes
pub mod TraceLaws
pub mod UncutPages
pub mod WorkedLaws
pub mod ZoneBounds
pub mod reading
pub mod text
