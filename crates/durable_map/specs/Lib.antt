pub mod LockedKeepers
pub mod Durable
pub mod Maps
pub mod RunningStore
