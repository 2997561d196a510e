pub mod Answers
pub mod Place
pub mod Registrations
pub mod RegistrationsCode
pub mod Room
