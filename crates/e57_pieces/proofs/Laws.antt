-- What holds of the grammar, the cut and the reading functions.
pub mod Characters
pub mod Fronts
pub mod References
pub mod Attributes
pub mod Markup
pub mod Next
pub mod Cut
pub mod Start
