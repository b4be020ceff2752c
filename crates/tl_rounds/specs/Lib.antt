pub mod Book
pub mod Fans
pub mod MadeOfRounds
pub mod Outcomes
pub mod Laws
pub mod inner
