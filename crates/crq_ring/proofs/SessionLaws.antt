-- Of the entries of a session, of fronts of a list, and of sessions that were freed: what the crates above cite.
pub use Rattle.crq_ring.proofs.Freed.{later_begun, later_ended}
pub use Rattle.crq_ring.proofs.Fronts.{begins_self}
pub use Rattle.crq_ring.proofs.Sessions.{of_session-append, of_session-nil, of_session-pass, of_session-push}
