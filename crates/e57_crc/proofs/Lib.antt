pub mod StepLaws
pub mod RegisterLaws
pub mod TableLaws
pub mod FarLaws
pub mod WordLaws
