mod DocumentLemmas
mod RowLemmas
mod ScreenLemmas
mod VerdictLemmas
