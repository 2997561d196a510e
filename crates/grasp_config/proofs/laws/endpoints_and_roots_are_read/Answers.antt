use Rattle.grasp_config.proofs.EndpointWords.{endpoints_read, roots_read}
use Rattle.grasp_config.proofs.laws.endpoints_and_roots_are_read.Goals as goal

pub returns-clause-endpoints : goal.returns-clause-endpoints
returns-clause-endpoints c = endpoints_read

pub returns-clause-roots : goal.returns-clause-roots
returns-clause-roots c = roots_read
