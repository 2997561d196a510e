use Rattle.std.proofs.Common.{◌<◌, ◌≤◌, length, sym, ◌∙◌, arith}
use Rattle.std.proofs.lemmas.List.Elements.{All-push}
use Rattle.grasp_cbor.proofs.Facts.Options.{on_err}
use Rattle.grasp_types.specs.Origin.{origin_of}
use Rattle.grasp_discovery.specs.Discoveries.{Discoveries}
use Rattle.grasp_discovery.proofs.Earliest.{searches_before, entries_before, memories_before}
use Rattle.grasp_discovery.proofs.Memories.{insert_entry_new, remembered_is, is_known, is_new, has_no_place}
use Rattle.grasp_discovery.proofs.Soundness.{sound_remember}
use Rattle.grasp_discovery.specs.declared.discovery.Discovery.TheInside.{Inside}
use Rattle.grasp_discovery.proofs.discovery.Discovery.heard.Goals as goal

abbrev seen : Inside → Discoveries
seen a = record { searches = a.searches.items; entries = a.entries.entries; memories = a.memories.entries }

-- one that is known

pub returns-then-contains_key-clause-reply : goal.returns-then-contains_key-clause-reply
returns-then-contains_key-clause-reply c =
    let origin = origin_of c.args.session c.args.initiator in
    rw (← c.self.view_is) (sym (is_known (seen c.self.inside) origin (remembered_is origin c.self.inside.memories.entries _ _ c.contains_key.ensures c.if-contains_key.true)))

-- one without a place

pub returns-then-len-ge-MOST_MEMORIES-clause-reply : goal.returns-then-len-ge-MOST_MEMORIES-clause-reply
returns-then-len-ge-MOST_MEMORIES-clause-reply c =
    let origin = origin_of c.args.session c.args.initiator in
    let unknown = remembered_is origin c.self.inside.memories.entries _ _ c.contains_key.ensures c.if-contains_key.false in
    rw (← c.self.view_is) (sym (has_no_place (seen c.self.inside) origin unknown (omega (arith, c.len.ensures.len))))

-- a new one for which memory is wanted

pub returns-in_err-memory-clause-wanted : goal.returns-in_err-memory-clause-wanted
returns-in_err-memory-clause-wanted c =
    let origin = origin_of c.args.session c.args.initiator in
    let unknown = remembered_is origin c.self.inside.memories.entries _ _ c.contains_key.ensures c.if-contains_key.false in
    rw (← c.self.view_is) (on_err c.from_residual.result (is_new (seen c.self.inside) origin unknown (omega (arith, c.len.ensures.len))))

pub returns-in_err-insert-clause-wanted : goal.returns-in_err-insert-clause-wanted
returns-in_err-insert-clause-wanted c =
    let origin = origin_of c.args.session c.args.initiator in
    let unknown = remembered_is origin c.self.inside.memories.entries _ _ c.contains_key.ensures c.if-contains_key.false in
    rw (← c.self.view_is) (on_err c.from_residual-in_err-insert.result (is_new (seen c.self.inside) origin unknown (omega (arith, c.len.ensures.len))))

-- a new one

pub invariant_of-self-2 : goal.invariant_of-self-2
invariant_of-self-2 c =
    let origin = origin_of c.args.session c.args.initiator in
    let unknown = remembered_is origin c.self.inside.memories.entries _ _ c.contains_key.ensures c.if-contains_key.false in
    let last = c.in_ok-insert.ensures.entries ∙ insert_entry_new origin c.in_ok-memory.memory c.self.inside.memories.entries unknown in
    let room : length c.self.inside.memories.entries < 256 = omega (arith, c.len.ensures.len) in
    let below : c.min-self-inside.result ≤ c.self.inside.earliest = omega arith in
    let ends : c.min-self-inside.result ≤ c.in_ok-memory.memory.end = omega arith in (
      record { all = rw last (sound_remember (seen c.self.inside) origin c.in_ok-memory.memory unknown room c.self.invariant.0.all); searches = c.self.invariant.0.searches },
      searches_before _ _ _ below c.self.invariant.1,
      entries_before _ _ _ below c.self.invariant.2,
      rw last (All-push (λ m. c.min-self-inside.result ≤ m.1.end) c.self.inside.memories.entries (origin, c.in_ok-memory.memory) (memories_before _ _ _ below c.self.invariant.3) ends),
    )

pub returns-clause-reply : goal.returns-clause-reply
returns-clause-reply c =
    let origin = origin_of c.args.session c.args.initiator in
    let unknown = remembered_is origin c.self.inside.memories.entries _ _ c.contains_key.ensures c.if-contains_key.false in
    rw (← c.self.view_is) (sym (is_new (seen c.self.inside) origin unknown (omega (arith, c.len.ensures.len))))

pub returns-clause-after : goal.returns-clause-after
returns-clause-after c =
    let origin = origin_of c.args.session c.args.initiator in
    let unknown = remembered_is origin c.self.inside.memories.entries _ _ c.contains_key.ensures c.if-contains_key.false in
    let last = c.in_ok-insert.ensures.entries ∙ insert_entry_new origin c.in_ok-memory.memory c.self.inside.memories.entries unknown in
    rw (last, c.in_ok-memory.ensures, ← c.self.view_is)

pub returns-clause-sound : goal.returns-clause-sound
returns-clause-sound c =
    let origin = origin_of c.args.session c.args.initiator in
    let unknown = remembered_is origin c.self.inside.memories.entries _ _ c.contains_key.ensures c.if-contains_key.false in
    let last = c.in_ok-insert.ensures.entries ∙ insert_entry_new origin c.in_ok-memory.memory c.self.inside.memories.entries unknown in
    let room : length c.self.inside.memories.entries < 256 = omega (arith, c.len.ensures.len) in
    rw last (sound_remember (seen c.self.inside) origin c.in_ok-memory.memory unknown room c.self.invariant.0.all)
