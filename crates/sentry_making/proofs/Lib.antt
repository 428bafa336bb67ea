pub mod Behind
pub mod Framed
pub mod Inserted
pub mod JsonTexts
pub mod Stated
