use Rattle.std.proofs.Common.{All, Some, None, sym, ap, ◌∙◌, subst, slice_index_or, slice_set, arith}
use Rattle.grasp_session.specs.Places.{held}
use Rattle.grasp_session.proofs.Earliest.{EndsFrom, all_put}
use Rattle.grasp_session.proofs.Seats.{has_room, empty_key, put_held, put_sound}
use Rattle.grasp_session.proofs.places.Places.put.Goals as goal

pub insert_reserved-key-requires : goal.insert_reserved-key-requires
insert_reserved-key-requires c =
    has_room c.self.inside.sessions c.self.inside.keys c.args.place c.self.invariant.0 c.requires.place
    (empty_key c.self.inside.sessions c.self.inside.keys c.args.place c.self.invariant.0 (ap (λ l. slice_index_or l c.args.place None) c.self.view_is ∙ c.requires.empty))

pub invariant_of-self : goal.invariant_of-self
invariant_of-self c = (
  put_sound c.self.inside.sessions c.insert_reserved-key.new.self c.self.inside.keys c.args.place c.insert_reserved-key.result c.args.session c.self.invariant.0
      (record { fresh = c.insert_reserved-key.ensures.was_vacant; changed = c.insert_reserved-key.ensures.updates.changed; others = c.insert_reserved-key.ensures.updates.others; count = c.insert_reserved-key.ensures.len; capacity = c.insert_reserved-key.ensures.capacity })
      c.requires.place (empty_key c.self.inside.sessions c.self.inside.keys c.args.place c.self.invariant.0 (ap (λ l. slice_index_or l c.args.place None) c.self.view_is ∙ c.requires.empty)),
  subst (All (EndsFrom c.min-self-inside.result))
      (sym (put_held c.self.inside.sessions c.insert_reserved-key.new.self c.self.inside.keys c.args.place c.insert_reserved-key.result c.args.session c.self.invariant.0
      (record { fresh = c.insert_reserved-key.ensures.was_vacant; changed = c.insert_reserved-key.ensures.updates.changed; others = c.insert_reserved-key.ensures.updates.others; count = c.insert_reserved-key.ensures.len; capacity = c.insert_reserved-key.ensures.capacity })))
      (all_put c.min-self-inside.result c.self.inside.earliest (held c.self.inside.sessions c.self.inside.keys) c.args.place c.args.session (omega arith) (omega arith) c.self.invariant.1),
)

pub returns-clause-kept : goal.returns-clause-kept
returns-clause-kept c =
    put_held c.self.inside.sessions c.insert_reserved-key.new.self c.self.inside.keys c.args.place c.insert_reserved-key.result c.args.session c.self.invariant.0
    (record { fresh = c.insert_reserved-key.ensures.was_vacant; changed = c.insert_reserved-key.ensures.updates.changed; others = c.insert_reserved-key.ensures.updates.others; count = c.insert_reserved-key.ensures.len; capacity = c.insert_reserved-key.ensures.capacity })
    ∙ ap (λ l. slice_set l c.args.place (Some c.args.session)) c.self.view_is
