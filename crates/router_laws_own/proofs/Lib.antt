pub mod AttributeKeys
pub mod OwnKeys
pub mod OwnDeliveries
