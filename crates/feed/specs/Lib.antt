-- `Feed`: the marks of a run one by one; `Trail`: the points of a dash one by one.
pub mod Feed
pub mod Trail
