pub mod Arguments
pub mod Going
pub mod InHand
