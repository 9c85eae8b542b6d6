pub mod Lets
pub mod Chains
pub mod Beyond
pub mod Sights
pub mod Late
pub mod CheckRefusals
