-- lists, and steps of a reading
pub mod Lists
pub mod Reading
pub mod Counting
-- the lines behind a header, and what is known of them
pub mod Sections
pub mod Read
pub mod Marks
pub mod Closed
pub mod Cycles
-- faults by their texts
pub mod FaultBack
-- worked examples
mod Worked
