pub mod SectorLoop
pub mod Numbers
