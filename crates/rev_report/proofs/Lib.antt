pub mod AnswerLemmas
pub mod NearestLemmas
pub mod ReportLemmas
pub mod RunLemmas
