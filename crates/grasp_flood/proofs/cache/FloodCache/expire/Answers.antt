use Rattle.std.proofs.Common.{rules, ◌≡◌, nat_lt, filter, sym, arith}
use Rattle.indexmap.proofs.CallerLemmas.{filter-RetainsPairs}
use Rattle.grasp_flood.specs.Floods.{Floods, is_after}
use Rattle.grasp_flood.proofs.Earliest.{kept_before, remembered_before, nothing_ends}
use Rattle.grasp_flood.proofs.Soundness.{sound_expiry}
use Rattle.grasp_flood.proofs.cache.FloodCache.expire.Goals as goal

-- what the maps are left with
entries : (c : goal.After-self-1) → c.retain.new.self.entries ≡ filter (λ entry. is_after c.args.now entry.1.end) c.self.inside.entries.entries
entries c = filter-RetainsPairs _ (λ entry. is_after c.args.now entry.1.end) _ (λ k v b w g call. search rules) _ _ c.retain.ensures.filtered

memories : (c : goal.After-self-1) → c.retain-2.new.self.entries ≡ filter (λ memory. nat_lt c.args.now memory.1) c.self.inside.memories.entries
memories c = filter-RetainsPairs _ (λ memory. nat_lt c.args.now memory.1) _ (λ k v b w g call. search rules) _ _ c.retain-2.ensures.filtered

pub invariant_of-self : goal.invariant_of-self
invariant_of-self c = (
  rw (entries c, memories c) (sound_expiry (record { entries = c.self.inside.entries.entries; memories = c.self.inside.memories.entries }) c.args.now c.self.invariant.0),
  kept_before _ _ _ (omega arith) c.earliest_kept.ensures,
  remembered_before _ _ _ (omega arith) c.earliest_remembered.ensures,
)

pub returns-then-now-self-clause-after : goal.returns-then-now-self-clause-after
returns-then-now-self-clause-after c =
    let floods : Floods = record { entries = c.self.inside.entries.entries; memories = c.self.inside.memories.entries } in
    rw (← c.self.view_is) (sym (nothing_ends floods c.self.inside.earliest c.args.now c.self.invariant.1 c.self.invariant.2 c.if-now-self.true))

pub returns-clause-after : goal.returns-clause-after
returns-clause-after c = rw (entries c, memories c, ← c.self.view_is)

pub returns-clause-sound : goal.returns-clause-sound
returns-clause-sound c = rw (entries c, memories c) (sound_expiry (record { entries = c.self.inside.entries.entries; memories = c.self.inside.memories.entries }) c.args.now c.self.invariant.0)
