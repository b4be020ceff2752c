mod Examples
mod AlignExamples
pub mod Ranges
pub mod StripLemmas
pub mod SignLemmas
pub mod HeadRows
pub mod SlotLemmas
pub mod LineTexts
pub mod ParagraphLines
pub mod Deeper
pub mod Fitting
pub mod Progress
pub mod Blocks
pub mod PictureLemmas
pub mod PageLaws
pub mod TrimLaws
mod TrimExamples
pub mod WidthLemmas
pub mod Sweeping
pub mod Meeting
pub mod LineWidths
pub mod PageLines
pub mod Sides
pub mod GreedyLines
pub mod Whole
pub mod Taking
