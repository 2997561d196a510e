use Rattle.std.proofs.Common.{◌≡◌, ◌-◌, length, subst, arith}
use Rattle.std.proofs.lemmas.List.{length-drop}
use Rattle.grasp_wire.specs.Cutter.{CountsRest}
use Rattle.grasp_wire.specs.Stands.{rest_of, cut_limit}
use Rattle.grasp_wire.proofs.Nexts.{counts_rest}
use Rattle.grasp_wire.proofs.cutter.Cutter.waiting.Goals as goal

pub returns-clause-counts : goal.returns-clause-counts
returns-clause-counts c = λ past s.
    let m = c.args.self.now in
    let e : length (rest_of m) ≡ c.len.result - m.start = omega (arith, length-drop m.start m.held.items, c.len.ensures, m.held.ok.0) in
    subst (λ n. CountsRest (cut_limit m) past past.fault n) e (counts_rest m past s (λ f. let z = m.let_go f in omega (arith, length-drop m.start m.held.items, m.held.ok.0)))
