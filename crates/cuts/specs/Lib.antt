-- `Cuts`: the cuts of a run and of a path, and refusal 26; `Runs`: the cut runs; `Checked`: refusals 2 to 4 and 26; `Counts`: how they are counted along a run, and `Passes` over the verbs of a path.
pub mod Cuts
pub mod Runs
pub mod Checked
pub mod Counts
pub mod Passes
