-- Of logins that are put, and of copies as what is known grows: what the crates above cite.
pub use Rattle.block_server.proofs.Advancing.{copy_stays}
unfoldable pub use Rattle.block_server.proofs.LoginPuts.{logins_none, logins_on}
