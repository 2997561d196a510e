use Rattle.std.proofs.Common.{All, ◌≡◌, None, sym, ap, ◌∙◌, subst, slice_set}
use Rattle.grasp_session.specs.Places.{held}
use Rattle.grasp_session.proofs.Earliest.{EndsFrom, all_taken}
use Rattle.grasp_session.proofs.Seats.{take_held, take_sound, take_nothing}
use Rattle.grasp_session.proofs.places.Places.take.Goals as goal

pub returns-in_err-key-clause-rest : goal.returns-in_err-key-clause-rest
returns-in_err-key-clause-rest c =
    sym (subst (λ l. slice_set l c.args.place None ≡ l) c.self.view_is (take_nothing c.self.inside.sessions c.self.inside.keys c.args.place c.in_err-key.was))

pub invariant_of-self : goal.invariant_of-self
invariant_of-self c = (
  take_sound c.self.inside.sessions c.remove.new.self c.self.inside.keys c.args.place c.in_ok-key.key c.self.invariant.0
      (record { others = c.remove.ensures.updates.others; count = c.remove.ensures.len; capacity = c.remove.ensures.capacity }) c.requires c.in_ok-key.was,
  subst (All (EndsFrom c.self.inside.earliest))
      (sym (take_held c.self.inside.sessions c.remove.new.self c.self.inside.keys c.args.place c.in_ok-key.key c.self.invariant.0
      (record { others = c.remove.ensures.updates.others; count = c.remove.ensures.len; capacity = c.remove.ensures.capacity }) c.requires c.in_ok-key.was))
      (all_taken c.self.inside.earliest (held c.self.inside.sessions c.self.inside.keys) c.args.place c.self.invariant.1),
)

pub returns-clause-rest : goal.returns-clause-rest
returns-clause-rest c =
    take_held c.self.inside.sessions c.remove.new.self c.self.inside.keys c.args.place c.in_ok-key.key c.self.invariant.0
    (record { others = c.remove.ensures.updates.others; count = c.remove.ensures.len; capacity = c.remove.ensures.capacity }) c.requires c.in_ok-key.was
    ∙ ap (λ l. slice_set l c.args.place None) c.self.view_is
