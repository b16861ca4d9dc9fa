pub mod Rising
pub mod Declared
pub mod WholeDeployments
pub mod Readings
pub mod Ranks
pub mod AttributeKeys
pub mod Programmed
