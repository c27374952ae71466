-- `Bend` is what one joint brings, `Weave` what joints do one after another.
pub mod Bend
pub mod Weave
