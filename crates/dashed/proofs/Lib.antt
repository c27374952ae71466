-- `Following` is a dash point by point, `Stripping` the strip along it, `Weaving` what is woven into that, `Drawing` a dash and those behind it, `Starting` the first
-- dash of a run.
mod Following
mod Stripping
mod Weaving
mod Drawing
mod Starting
