use Rattle.std.proofs.Common.{rules, ◌≡◌, not, filter, inl, inr, sym, ap, arith, ◌≤◌, false}
use Rattle.std.proofs.lemmas.List.Elements.{All-filter}
use Rattle.std.proofs.lemmas.Fn.{filter_same}
use Rattle.grasp_discovery.specs.Discoveries.{is_search_of, after_find}
use Rattle.grasp_discovery.specs.Topic.{topic_of}
use Rattle.grasp_discovery.proofs.Soundness.{sound_fewer}
use Rattle.grasp_discovery.proofs.discovery.Discovery.end_search.Goals as goal

-- what is left
left : (c : goal.After-retain) → c.retain.new.self.items ≡ filter (λ search. not (is_search_of c.args.asa (topic_of c.args.name.now c.args.kind) search)) c.self.inside.searches.items
left c = filter_same _ (λ search. not (is_search_of c.args.asa (topic_of c.args.name.now c.args.kind) search)) _ (λ x b f' k. search rules) _ _ c.retain.ensures.filtered

pub invariant_of-self : goal.invariant_of-self
invariant_of-self c = (
  record {
    all = rw (left c) (sound_fewer _ (λ search. not (is_search_of c.args.asa (topic_of c.args.name.now c.args.kind) search)) c.self.invariant.0.all);
    searches = omega (arith, c.self.invariant.0.searches, c.retain.ensures.capacity);
  },
  rw (left c) (All-filter _ (λ s. s.over ≡ false → c.self.inside.earliest ≤ s.end) c.self.inside.searches.items c.self.invariant.1),
  c.self.invariant.2,
  c.self.invariant.3,
)

pub returns-in-Found-clause-after : goal.returns-in-Found-clause-after
returns-in-Found-clause-after c =
    rw (left c, ← c.self.view_is)
    (elim c.in-Found.is [
      | inl found ↦ sym (ap (after_find (record { searches = c.self.inside.searches.items; entries = c.self.inside.entries.entries; memories = c.self.inside.memories.entries }) c.args.asa (topic_of c.args.name.now c.args.kind)) found.1)
      | inr nothing ↦ sym (ap (after_find (record { searches = c.self.inside.searches.items; entries = c.self.inside.entries.entries; memories = c.self.inside.memories.entries }) c.args.asa (topic_of c.args.name.now c.args.kind)) nothing)
    ])

pub returns-in-Found-clause-sound : goal.returns-in-Found-clause-sound
returns-in-Found-clause-sound c = rw (left c) (sound_fewer _ (λ search. not (is_search_of c.args.asa (topic_of c.args.name.now c.args.kind) search)) c.self.invariant.0.all)
