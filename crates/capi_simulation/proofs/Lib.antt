pub mod CallLaws
pub mod EventWords
