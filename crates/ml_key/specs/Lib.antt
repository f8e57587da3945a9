pub mod ItemKeys
pub use Rattle.ml_term.specs.CanonicalBytes
pub use Rattle.ml_term.specs.Codes
pub use Rattle.ml_term.specs.Keys
pub use Rattle.ml_term.specs.Patterns
pub mod inside
