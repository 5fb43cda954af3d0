mod FlatLaws
mod KeptLaws
mod ResizeLaws
pub mod SeatLaws
