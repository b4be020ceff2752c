-- No public clause cites these files. Readings of any text from its beginning to its end: they know no certificates.
pub mod Readings
pub mod Numbers
pub mod Lists
