pub mod Written
pub mod Beginning
