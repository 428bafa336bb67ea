pub mod Framing
pub mod HeaderView
pub mod ItemHeader
pub mod ItemWords
pub mod Quotes
pub mod Sending
pub mod Unread
pub mod View
