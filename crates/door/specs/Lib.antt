pub mod Door
pub mod KindThree
