use Rattle.grasp_laws_tables.proofs.RegistryLaws.{names_own}
use Rattle.grasp_laws_tables.proofs.registrations.names_are_registered.Goals as goal

pub returns : goal.returns
returns c = names_own
