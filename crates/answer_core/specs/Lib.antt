pub mod Codes
pub mod Tags
pub mod Messages
pub mod RowTexts
pub mod Remaining
pub mod Steps
pub mod Answers
pub mod Replies
pub use Rattle.base_core.specs.Streams
pub use Rattle.lexer_core.specs.Codes as FaultCodes
pub use Rattle.messages_core.specs.Columns
pub use Rattle.messages_core.specs.Rows
pub use Rattle.messages_core.specs.Server
pub use Rattle.messages_core.specs.Fields
pub use Rattle.reply_core.specs.Texts
