use Rattle.std.proofs.Common.{rules, ◌≡◌, ◌==◌, not, filter, arith, ◌≤◌, false}
use Rattle.std.proofs.lemmas.List.Elements.{All-filter}
use Rattle.std.proofs.lemmas.Fn.{filter_same}
use Rattle.grasp_discovery.proofs.Soundness.{sound_drop}
use Rattle.grasp_discovery.proofs.discovery.Discovery.drop_asa.Goals as goal

-- what is left
left : (c : goal.After-retain) → c.retain.new.self.items ≡ filter (λ search. not (search.asa == c.args.asa)) c.self.inside.searches.items
left c = filter_same _ (λ search. not (search.asa == c.args.asa)) _ (λ x b f' k. search rules) _ _ c.retain.ensures.filtered

pub invariant_of-self : goal.invariant_of-self
invariant_of-self c = (
  record {
    all = rw (left c) (sound_drop (record { searches = c.self.inside.searches.items; entries = c.self.inside.entries.entries; memories = c.self.inside.memories.entries }) c.args.asa c.self.invariant.0.all);
    searches = omega (arith, c.self.invariant.0.searches, c.retain.ensures.capacity);
  },
  rw (left c) (All-filter _ (λ s. s.over ≡ false → c.self.inside.earliest ≤ s.end) c.self.inside.searches.items c.self.invariant.1),
  c.self.invariant.2,
  c.self.invariant.3,
)

pub returns-clause-after : goal.returns-clause-after
returns-clause-after c = rw (left c, ← c.self.view_is)

pub returns-clause-sound : goal.returns-clause-sound
returns-clause-sound c = rw (left c) (sound_drop (record { searches = c.self.inside.searches.items; entries = c.self.inside.entries.entries; memories = c.self.inside.memories.entries }) c.args.asa c.self.invariant.0.all)
