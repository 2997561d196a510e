pub mod Calls
pub mod Giving
pub mod GoingOn
pub mod Laws
pub mod OfferLaws
pub mod Owning
pub mod Serving
pub mod Staying
