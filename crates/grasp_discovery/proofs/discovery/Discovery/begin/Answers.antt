use Rattle.std.proofs.Common.{◌≡◌, ◌≤◌, false, sym, ◌∙◌, subst, arith}
use Rattle.std.proofs.lemmas.List.Elements.{All-push}
use Rattle.grasp_discovery.specs.Discoveries.{IsDiscoveries, is_searching, is_full, with_search}
use Rattle.grasp_discovery.specs.Topic.{topic_of}
use Rattle.grasp_discovery.proofs.Earliest.{searches_before, entries_before, memories_before}
use Rattle.grasp_discovery.proofs.Soundness.{sound_begin}
use Rattle.grasp_discovery.proofs.discovery.Discovery.begin.Goals as goal

-- with one more search
more : (c : goal.In-Ok) → IsDiscoveries (with_search (record { searches = c.self.inside.searches.items; entries = c.self.inside.entries.entries; memories = c.self.inside.memories.entries }) (record { asa = c.args.asa; topic = topic_of c.args.name c.args.kind; session = c.args.session; end = c.reading_after-end.result; over = false }))
more c =
    let none = subst (λ all. is_searching all c.args.asa (topic_of c.args.name c.args.kind) ≡ false) (sym c.self.view_is) c.requires in
    let room = subst (λ all. is_full all ≡ false) (sym c.self.view_is) (sym c.full.ensures ∙ c.if-full.false) in
    sound_begin _ _ none room c.self.invariant.0.all

pub invariant_of-self : goal.invariant_of-self
invariant_of-self c =
    let below : c.min-self-inside.result ≤ c.self.inside.earliest = omega arith in
    let ends : c.min-self-inside.result ≤ c.reading_after-end.result = omega arith in (
      record { all = rw c.in-Ok.ensures.items (more c); searches = omega (arith, c.self.invariant.0.searches, c.in-Ok.ensures.capacity) },
      rw c.in-Ok.ensures.items (All-push (λ s. s.over ≡ false → c.min-self-inside.result ≤ s.end) c.self.inside.searches.items _ (searches_before _ _ _ below c.self.invariant.1) (λ e. ends)),
      entries_before _ _ _ below c.self.invariant.2,
      memories_before _ _ _ below c.self.invariant.3,
    )

pub returns-clause-sound : goal.returns-clause-sound
returns-clause-sound c = rw c.in-Ok.ensures.items (more c)
