pub mod Fits
pub mod Tops
pub mod Standing
