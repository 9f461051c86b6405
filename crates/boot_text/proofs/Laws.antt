-- What the cost of a text is, statement by statement: what the crates above cite.
pub use Rattle.boot_text.proofs.Adding.{cost_of-push}
