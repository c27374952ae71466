-- `Options` is refusal 1, and what the rules use of the options.
pub mod Options
