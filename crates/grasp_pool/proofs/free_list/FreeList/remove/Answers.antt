use Rattle.std.proofs.Common.{rules, ◌∷◌, List, subst, sym}
use Rattle.grasp_types.specs.Prefix.{AddressBlock as Prefix}
use Rattle.grasp_pool.specs.Canonical.{IsRising}
use Rattle.grasp_pool.specs.Parts.{IsIndex}
use Rattle.grasp_pool.proofs.Indexing.{taken_rising, taken_index}
use Rattle.grasp_pool.proofs.free_list.FreeList.remove.Goals as goal

pub note_removed-requires-clause-index : goal.note_removed-requires-clause-index
note_removed-requires-clause-index c =
    let p = c.remove_at-prefix.result
    in subst (λ (xs : List Prefix). IsIndex (p ∷ xs) c.self.inside.firsts.items) (sym c.deref.ensures.value)
    (taken_index c.self.inside.entries.items c.remove_at-prefix.new.list.items c.args.i p c.self.inside.firsts.items c.self.invariant.rising c.self.invariant.index (search rules)
    c.remove_at-prefix.ensures.value c.remove_at-prefix.ensures.is)

pub note_removed-requires-clause-rising : goal.note_removed-requires-clause-rising
note_removed-requires-clause-rising c = subst IsRising (sym c.deref.ensures.value)
    (taken_rising c.self.inside.entries.items c.remove_at-prefix.new.list.items c.args.i c.remove_at-prefix.result c.self.invariant.rising (search rules)
    c.remove_at-prefix.ensures.value c.remove_at-prefix.ensures.is)

pub invariant_of-self : goal.invariant_of-self
invariant_of-self c = record {
  rising = taken_rising c.self.inside.entries.items c.remove_at-prefix.new.list.items c.args.i c.remove_at-prefix.result c.self.invariant.rising (search rules)
      c.remove_at-prefix.ensures.value c.remove_at-prefix.ensures.is;
  index = subst (λ (xs : List Prefix). IsIndex xs c.note_removed.new.firsts.items) c.deref.ensures.value c.note_removed.ensures;
  memory = search rules;
}
