pub mod Search
pub mod Segments
pub mod Seen
pub mod KeptAt
pub mod Searching
pub mod Listing
pub mod KeptBy
