pub mod NodeItems
pub mod Laws
