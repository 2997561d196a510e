use Rattle.std.proofs.Common.{◌≤◌, arith}
use Rattle.grasp_discovery.specs.Discoveries.{Discoveries}
use Rattle.grasp_discovery.specs.declared.discovery.Discovery.TheInside.{Inside}
use Rattle.grasp_discovery.proofs.Earliest.{searches_before, entries_before, memories_before, response_from}
use Rattle.grasp_discovery.proofs.Soundness.{sound_cache}
use Rattle.grasp_discovery.proofs.discovery.Discovery.answered.Goals as goal

abbrev seen : Inside → Discoveries
seen a = record { searches = a.searches.items; entries = a.entries.entries; memories = a.memories.entries }

pub invariant_of-self-2 : goal.invariant_of-self-2
invariant_of-self-2 c =
    let below : c.min-self-inside.result ≤ c.self.inside.earliest = omega arith in
    let ends : c.min-self-inside.result ≤ c.end_of-end.result = omega arith in (
      record {
        all = sound_cache (seen c.self.inside) c.keep_response.new.entries.entries (c.in_ok-keep_response.ensures.sound c.self.invariant.0.all.cache) c.self.invariant.0.all;
        searches = c.self.invariant.0.searches;
      },
      searches_before _ _ _ below c.self.invariant.1,
      rw c.in_ok-keep_response.ensures.ok (response_from c.min-self-inside.result c.self.inside.entries.entries _ c.end_of-end.result c.args.locators.now ends (entries_before _ _ _ below c.self.invariant.2)),
      memories_before _ _ _ below c.self.invariant.3,
    )
