pub mod Laws
pub mod StoreStates
pub mod States
