pub mod SumLaws
pub mod RuleLaws
pub mod WriteLaws
pub mod ReplyLaws
