-- `Theorems` is the page of theorems, and `Answers` to `TurnedWrong` are its parts. `Rows` is what the code needs beside
-- them, of wrong bits that are counted a row at a time.
pub mod Theorems
pub mod Answers
pub mod WrongBits
pub mod Figures
pub mod Meaning
pub mod CallLaws
pub mod TurnedWrong
pub mod Rows
