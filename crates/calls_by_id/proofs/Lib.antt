pub mod ReadLaws
mod PlaceLaws
