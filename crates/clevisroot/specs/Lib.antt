pub mod CAnswers
