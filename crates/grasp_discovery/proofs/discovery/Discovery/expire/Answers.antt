use Rattle.std.proofs.Common.{rules, ◌≡◌, nat_lt, length, filter, map, sym, ap, ◌∙◌, subst, arith}
use Rattle.std.specs.Vec.{with_items}
use Rattle.std.proofs.lemmas.List.{with_items_is}
use Rattle.grasp_cbor.proofs.Facts.Lists.{length_map}
use Rattle.indexmap.proofs.CallerLemmas.{filter-RetainsPairs}
use Rattle.grasp_discovery.specs.Discoveries.{Discoveries, has_any, live_entry, after_reading}
use Rattle.grasp_discovery.proofs.Earliest.{SearchesFrom, searches_before, entries_before, memories_before, nothing_ends}
use Rattle.grasp_discovery.proofs.Soundness.{sound_expiry}
use Rattle.grasp_discovery.proofs.discovery.Discovery.expire.Goals as goal

-- what is left
searches : (c : goal.After-self-2-1) → (with_items c.self.inside.searches c.mark_over.new.searches).items ≡ map (after_reading c.args.now) c.self.inside.searches.items
searches c =
    let f = after_reading c.args.now in
    let marked = c.mark_over.ensures ∙ ap (map f) c.deref_mut.ensures.value in
    with_items_is c.self.inside.searches c.mark_over.new.searches (ap length marked ∙ length_map f c.self.inside.searches.items ∙ sym c.self.inside.searches.ok.0) ∙ marked

entries : (c : goal.After-self-2-1) → c.retain.new.self.entries ≡ filter has_any (map (live_entry c.args.now) c.self.inside.entries.entries)
entries c = filter-RetainsPairs _ has_any _ (λ k v b w g call. search rules) _ _ c.retain.ensures.filtered ∙ ap (filter has_any) c.expire_all.ensures

memories : (c : goal.After-self-2-1) → c.retain-2.new.self.entries ≡ filter (λ memory. nat_lt c.args.now memory.1.end) c.self.inside.memories.entries
memories c = filter-RetainsPairs _ (λ memory. nat_lt c.args.now memory.1.end) _ (λ k v b w g call. search rules) _ _ c.retain-2.ensures.filtered

pub invariant_of-self : goal.invariant_of-self
invariant_of-self c = (
  record {
    all = rw (searches c, entries c, memories c) (sound_expiry (record { searches = c.self.inside.searches.items; entries = c.self.inside.entries.entries; memories = c.self.inside.memories.entries }) c.args.now c.self.invariant.0.all);
    searches = omega (arith, c.self.invariant.0.searches);
  },
  searches_before _ c.earliest_search.result _ (omega arith) (subst (SearchesFrom c.earliest_search.result) c.deref.ensures.value c.earliest_search.ensures),
  entries_before _ _ _ (omega arith) c.earliest_cached.ensures,
  memories_before _ _ _ (omega arith) c.earliest_remembered.ensures,
)

pub returns-then-now-self-clause-after : goal.returns-then-now-self-clause-after
returns-then-now-self-clause-after c =
    let all : Discoveries = record { searches = c.self.inside.searches.items; entries = c.self.inside.entries.entries; memories = c.self.inside.memories.entries } in
    rw (← c.self.view_is) (sym (nothing_ends all c.self.inside.earliest c.args.now c.self.invariant.0.all.cache.each c.self.invariant.1 c.self.invariant.2 c.self.invariant.3 c.if-now-self.true))

pub returns-clause-after : goal.returns-clause-after
returns-clause-after c = rw (searches c, entries c, memories c, ← c.self.view_is)

pub returns-clause-sound : goal.returns-clause-sound
returns-clause-sound c = rw (searches c, entries c, memories c) (sound_expiry (record { searches = c.self.inside.searches.items; entries = c.self.inside.entries.entries; memories = c.self.inside.memories.entries }) c.args.now c.self.invariant.0.all)
