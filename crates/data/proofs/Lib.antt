pub mod Window
pub mod WriteOnly
pub mod Origins
pub mod UnderWindow
