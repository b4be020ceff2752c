pub mod Characters
pub mod Numbers
pub mod Elements
pub mod Grammar
pub mod Spelling
pub mod inner
