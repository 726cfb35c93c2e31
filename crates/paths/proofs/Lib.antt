-- That the paths through a face are its choices in order; the first, the next and the last of them.
-- Words of any system
pub mod WordLaws
pub mod WordOrder
-- Paths
pub mod Walking
pub mod PathLaws
pub mod PathOrder
pub mod OnePlace
