use Rattle.std.proofs.Common.{rules, ◌≡◌, ◌≤◌, IfSome, not, filter, length, ap, ◌∙◌}
use Rattle.std.proofs.lemmas.List.Elements.{All-filter}
use Rattle.indexmap.proofs.CallerLemmas.{filter-RetainsPairs}
use Rattle.grasp_flood.specs.Flood.{same_key, key_of}
use Rattle.grasp_flood.proofs.Entries.{fewer_where_any}
use Rattle.grasp_flood.proofs.Soundness.{sound_drop}
use Rattle.grasp_flood.proofs.cache.FloodCache.drop_one.Goals as goal

-- what the map is left with
left : (c : goal.After-len) → c.retain.new.self.entries ≡ filter (λ entry. not (same_key (key_of c.args.name.now c.args.initiator) entry.0)) c.self.inside.entries.entries
left c = filter-RetainsPairs _ (λ entry. not (same_key (key_of c.args.name.now c.args.initiator) entry.0)) _ (λ k v b w g call. search rules) _ _ c.retain.ensures.filtered

pub invariant_of-self : goal.invariant_of-self
invariant_of-self c = (
  rw (left c) (sound_drop (record { entries = c.self.inside.entries.entries; memories = c.self.inside.memories.entries }) (key_of c.args.name.now c.args.initiator) c.self.invariant.0),
  rw (left c) (All-filter _ (λ e. IfSome e.1.end (λ last. c.self.inside.earliest ≤ last)) c.self.inside.entries.entries c.self.invariant.1),
  c.self.invariant.2,
)

pub returns-clause-there : goal.returns-clause-there
returns-clause-there c =
    let short = c.len.ensures.len ∙ ap length (left c) in
    rw (short, c.len-before.ensures.len, ← c.self.view_is) (fewer_where_any (λ entry. same_key (key_of c.args.name.now c.args.initiator) entry.0) c.self.inside.entries.entries)

pub returns-clause-after : goal.returns-clause-after
returns-clause-after c = rw (left c, ← c.self.view_is)

pub returns-clause-sound : goal.returns-clause-sound
returns-clause-sound c = rw (left c) (sound_drop (record { entries = c.self.inside.entries.entries; memories = c.self.inside.memories.entries }) (key_of c.args.name.now c.args.initiator) c.self.invariant.0)
