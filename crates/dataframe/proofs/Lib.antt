pub mod Framed
pub mod Checked
pub mod Laws
pub mod Polynomial
