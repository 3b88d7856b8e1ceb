mod LinesLemmas
mod NumbersLemmas
mod WordsLemmas
mod StatementLemmas
pub mod ShownLaws
pub mod Written
pub mod ScriptLaws
pub mod EndedLaws
pub mod EndedLemmas
mod HeldLaws
mod HoldingLaws
mod AnswerLemmas
mod CommandLemmas
mod CsvLemmas
mod DefinedLaws
mod PrintLemmas
mod PlanLemmas
mod TurnLemmas
mod FreshLaws
pub mod RunLemmas
pub mod HostLaws
pub mod OpenLaws
pub mod ToldLaws
pub mod EndingLaws
mod LeavingLaws
mod WayLaws
pub mod SessionLaws
