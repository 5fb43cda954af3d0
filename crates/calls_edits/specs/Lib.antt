-- Files of edits: what is believed of them (Edits), what is promised of the two calls (Promised) and its proof (Answered, with Causes and Exactly),
-- files that meet its premises (Example), and the walk that the code takes (Walk).
-- Stands on model and list.
pub mod Edits
pub mod Promised
pub mod Causes
pub mod Exactly
pub mod Answered
pub mod Example
pub mod Walk
