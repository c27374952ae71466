-- `Weft` is what is written behind what stands; `Fans` the arcs of a joint's sides and the fans of the caps.
pub mod Weft
pub mod Fans
