use Rattle.std.proofs.Common.{refl}
use Rattle.grasp_quick.proofs.PackedWords.{last_objective_packs, no_objective_packs}
use Rattle.grasp_quick.proofs.packed.words.pack_last_objective.Goals as goal

pub returns-in-32-clause-objective : goal.returns-in-32-clause-objective
returns-in-32-clause-objective c =
    last_objective_packs c.args.line.now c.in_ok-rest.rest.now c.args.bytes.now c.pack_objective.new.bytes c.in_ok-rest.ensures

pub returns-clause-objective : goal.returns-clause-objective
returns-clause-objective c = no_objective_packs c.args.line.now c.args.bytes.now _ refl
