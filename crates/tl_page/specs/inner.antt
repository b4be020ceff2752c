-- What private functions promise each other. No public clause cites this file.
pub mod Contents
pub mod Drawing
pub mod Lines
pub mod Taking
