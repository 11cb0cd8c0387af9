pub mod Values
pub mod States
pub mod Answers
pub mod Meant
pub mod LoadsAgain
