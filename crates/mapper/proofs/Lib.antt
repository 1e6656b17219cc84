-- The loops of the passes, one idea a file: a frame cut into labels, labels collected, labels that two tones share, filler bits, parts of
-- lists, points, points by blocks of places.
pub mod CutLoop
pub mod CollectLoop
pub mod SharedLabels
pub mod FillerLoop
pub mod Parts
pub mod PointLoop
pub mod BlockLoops
