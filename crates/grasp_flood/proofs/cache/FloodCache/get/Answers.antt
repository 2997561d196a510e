use Rattle.std.proofs.Common.{rules, ◌≡◌, Some, slice_get, sym, ◌∙◌}
use Rattle.std.proofs.lemmas.Slice.Eq.{bytes_eq-Decides}
use Rattle.grasp_cbor.proofs.Facts.Options.{on_err}
use Rattle.grasp_flood.specs.Floods.{is_named, read_of}
use Rattle.grasp_flood.proofs.Entries.{passes_more, fails_more, any_at}
use Rattle.grasp_flood.proofs.cache.FloodCache.get.Goals as goal
use Rattle.grasp_flood.proofs.cache.FloodCache.get.Goals.{then-eq+in_ok-read_of+in_ok-push, else-eq}

pub loop-i-preserved : goal.loop-i-preserved
loop-i-preserved c =
    let at : slice_get c.args.self.now.entries c.loop-i.i ≡ Some (c.in-Some.key.now, c.in-Some.kept.now) = rw (← c.self.view_is) (sym c.in-Some.ensures.entry) in
    let named : is_named c.args.name.now (c.in-Some.key.now, c.in-Some.kept.now) ≡ c.eq.result = search rules in
    elim c.if-eq.branch [
      | then-eq+in_ok-read_of+in_ok-push w ↦
          let more = passes_more (is_named c.args.name.now) read_of c.args.self.now.entries c.loop-i.i (c.in-Some.key.now, c.in-Some.kept.now) at (named ∙ w.if-eq.true) in
          rw (w.reads-is, w.in_ok-push.ensures.ok, c.loop-i.invariant, w.in_ok-read_of.ensures) (sym more)
      | else-eq w ↦
          let more = fails_more (is_named c.args.name.now) read_of c.args.self.now.entries c.loop-i.i (c.in-Some.key.now, c.in-Some.kept.now) at (named ∙ w.if-eq.false) in
          rw (w.reads-is, c.loop-i.invariant) (sym more)
    ]

pub returns-in_err-read_of-clause-wanted : goal.returns-in_err-read_of-clause-wanted
returns-in_err-read_of-clause-wanted c =
    let at : slice_get c.args.self.now.entries c.loop-i.i ≡ Some (c.in-Some.key.now, c.in-Some.kept.now) = rw (← c.self.view_is) (sym c.in-Some.ensures.entry) in
    let named : is_named c.args.name.now (c.in-Some.key.now, c.in-Some.kept.now) ≡ c.eq.result = search rules in
    on_err c.from_residual.result
    (any_at (λ entry. entry.0.name ≡ c.args.name.now) c.args.self.now.entries c.loop-i.i (c.in-Some.key.now, c.in-Some.kept.now) at
    ((bytes_eq-Decides c.in-Some.key.now.name c.args.name.now).0 (named ∙ c.if-eq.true)))

pub returns-in_err-push-clause-wanted : goal.returns-in_err-push-clause-wanted
returns-in_err-push-clause-wanted c =
    let at : slice_get c.args.self.now.entries c.loop-i.i ≡ Some (c.in-Some.key.now, c.in-Some.kept.now) = rw (← c.self.view_is) (sym c.in-Some.ensures.entry) in
    let named : is_named c.args.name.now (c.in-Some.key.now, c.in-Some.kept.now) ≡ c.eq.result = search rules in
    on_err c.from_residual-in_err-push.result
    (any_at (λ entry. entry.0.name ≡ c.args.name.now) c.args.self.now.entries c.loop-i.i (c.in-Some.key.now, c.in-Some.kept.now) at
    ((bytes_eq-Decides c.in-Some.key.now.name c.args.name.now).0 (named ∙ c.if-eq.true)))
