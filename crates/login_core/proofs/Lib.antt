mod Adding
mod Answered
mod Beginnings
mod Bools
mod Cutting
mod ExclusiveOr
mod Files
mod FirstMessages
mod Iterates
mod Joins
mod LastMessages
mod Naming
mod Pads
mod Spelling
pub mod Standing
