pub mod Answer
pub mod Find
pub mod Step
pub mod Run
pub mod Made
pub mod KindThree
