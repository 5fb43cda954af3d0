pub mod TextLaws
pub mod FeedLaws
pub mod RestLaws
pub mod ShownLaws
