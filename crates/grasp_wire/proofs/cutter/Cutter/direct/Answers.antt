use Rattle.std.proofs.lemmas.Option.{IfSome_then}
use Rattle.grasp_wire.proofs.Straight.{kept_form}
use Rattle.grasp_wire.proofs.cutter.Cutter.direct.Goals as goal

pub returns-clause-form : goal.returns-clause-form
returns-clause-form c =
    let m = c.args.self.now in
    IfSome_then c.direct_message.result c.direct_message.ensures (λ p d. (kept_form p.0 c.deref.result.now m.held.items m.start c.end_within-end.result m.limit p.1 c.deref.ensures.value c.end_within-end.ensures.few d).0)

pub returns-clause-inside : goal.returns-clause-inside
returns-clause-inside c =
    let m = c.args.self.now in
    IfSome_then c.direct_message.result c.direct_message.ensures (λ p d. (kept_form p.0 c.deref.result.now m.held.items m.start c.end_within-end.result m.limit p.1 c.deref.ensures.value c.end_within-end.ensures.few d).1)
