use Rattle.boot_text.proofs.draft.Draft.offence.Goals as goal

pub returns-in-Client : goal.returns-in-Client
returns-in-Client c = rw c.in-Client.is c.client_offence.ensures
