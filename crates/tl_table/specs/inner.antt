-- What private functions promise each other. No public clause cites this file.
pub mod Demands
pub mod LeastRooms
pub mod Links
pub mod Marks
pub mod Forming
pub mod Numbers
