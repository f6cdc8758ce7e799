pub mod LabelOrders
pub mod Wires
pub mod OpenWires
pub mod EditLemmas
pub mod LowerWires
pub mod LastLengths
