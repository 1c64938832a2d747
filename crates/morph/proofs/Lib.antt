pub mod Cases
pub mod Operator
pub mod SingleChange
pub mod Bound
pub mod Exchange
pub mod Order
pub mod Rest
pub mod Heijmans
