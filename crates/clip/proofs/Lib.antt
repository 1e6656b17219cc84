-- `Look` finds the first monitored tone, `Compared` compares its point with that of its filler bits, `Answers` puts the answer together.
pub mod Look
pub mod Compared
pub mod Answers
