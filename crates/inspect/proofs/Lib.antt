-- `Firsts` has the laws of `first` and `some`, `Marking` of the marks, `Judging` of an answer fault by fault. `Exact` says that both questions are answered 0 exactly where they are so; `Listed`
-- takes triangles for the list that spells them, and `Runs` says what runs that follow one another come to. `Traps` are computed.
pub mod Firsts
pub mod Marking
pub mod Judging
pub mod Exact
pub mod Listed
pub mod Runs
pub mod Traps
