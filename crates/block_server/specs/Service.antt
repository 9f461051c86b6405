-- The service of the oldest request, between its stages.
use Rattle.std.specs.Prelude.{◌≡◌, []}
use Rattle.block_server.specs.declared.service.Service.{Service}
use Rattle.block_server.specs.declared.service.Stage.TheVariants.{Start}

-- No service has begun.
pub record IsReset (service : Service) : Type 0 where
  pub stage : service.stage ≡ Start
  pub out : service.out.list.items ≡ []
  pub inn : service.inn.list.items ≡ []
  pub given : service.given.items ≡ []
  pub answer : service.answer.items ≡ []
