pub mod DecodePair
pub mod DecodeLoop
pub mod DecodeAll
