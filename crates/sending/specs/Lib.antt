pub mod Send
pub mod Examples
pub mod Under
