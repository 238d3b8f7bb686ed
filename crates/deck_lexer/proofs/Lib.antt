pub mod Spans
mod Blocks
mod Gaps
mod FirstBytes
pub mod Lens
pub mod Fronts
mod OneAnswer
pub mod OneGap
pub mod TokenLaws
