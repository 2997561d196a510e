use Rattle.std.proofs.Common.{◌∙◌, sym, arith}
use Rattle.std.specs.Prelude.{nat_le}
use Rattle.grasp_core.proofs.StreamNumbers.{place_found, place_missed}
use Rattle.grasp_core.proofs.streams.place_in.Goals as goal

pub returns-in-Some : goal.returns-in-Some
returns-in-Some c =
    let f = place_found (λ n. nat_le c.args.number n) c.args.numbers.now c.in-Some.place (sym c.in-Some.is ∙ c.first_from.ensures) in
    record { is = f.0; within = f.1 }

pub returns-in-None : goal.returns-in-None
returns-in-None c =
    record { is = place_missed (λ n. nat_le c.args.number n) c.args.numbers.now (sym c.in-None.is ∙ c.first_from.ensures); within = omega arith }
