pub mod Owings
pub mod SettingLemmas
