use Rattle.std.proofs.Common.{◌<◌, ◌≤◌, length, sym, ◌∙◌, subst, arith}
use Rattle.std.proofs.lemmas.List.Elements.{All-push}
use Rattle.grasp_cbor.proofs.Facts.Options.{on_err}
use Rattle.grasp_types.specs.Origin.{origin_of}
use Rattle.grasp_flood.specs.Floods.{Floods}
use Rattle.grasp_flood.proofs.Earliest.{KeptFrom, kept_before, remembered_before, all_renewed, all_kept, all_told}
use Rattle.grasp_flood.proofs.Entries.{insert_entry_new, remembered_is, is_known, is_new, has_no_place}
use Rattle.grasp_flood.proofs.Soundness.{sound_known, sound_new}
use Rattle.grasp_flood.specs.declared.cache.FloodCache.TheInside.{Inside}
use Rattle.grasp_flood.proofs.cache.FloodCache.heard.Goals as goal

abbrev seen : Inside → Floods
seen a = record { entries = a.entries.entries; memories = a.memories.entries }

-- a flood that is known

pub invariant_of-self : goal.invariant_of-self
invariant_of-self c =
    let flood = origin_of c.args.session c.args.initiator in
    rw c.renew_all.ensures (
      sound_known (seen c.self.inside) flood c.end_of-end.result c.self.invariant.0,
      all_renewed c.self.inside.earliest flood c.end_of-end.result c.self.inside.entries.entries c.self.invariant.1,
      c.self.invariant.2,
    )

pub returns-then-contains_key-clause-reply : goal.returns-then-contains_key-clause-reply
returns-then-contains_key-clause-reply c =
    let flood = origin_of c.args.session c.args.initiator in
    rw (← c.self.view_is) (sym (is_known (seen c.self.inside) flood (remembered_is flood c.self.inside.memories.entries _ _ c.contains_key.ensures c.if-contains_key.true)))

pub returns-then-contains_key-clause-sound : goal.returns-then-contains_key-clause-sound
returns-then-contains_key-clause-sound c =
    rw c.renew_all.ensures (sound_known (seen c.self.inside) (origin_of c.args.session c.args.initiator) c.end_of-end.result c.self.invariant.0)

-- one without a place

pub returns-then-len-ge-MOST_MEMORIES-clause-reply : goal.returns-then-len-ge-MOST_MEMORIES-clause-reply
returns-then-len-ge-MOST_MEMORIES-clause-reply c =
    let flood = origin_of c.args.session c.args.initiator in
    let unknown = remembered_is flood c.self.inside.memories.entries _ _ c.contains_key.ensures c.if-contains_key.false in
    rw (← c.self.view_is) (sym (has_no_place (seen c.self.inside) flood unknown (omega (arith, c.len.ensures.len))))

-- a new one for which memory is wanted

pub returns-in_err-told-clause-wanted : goal.returns-in_err-told-clause-wanted
returns-in_err-told-clause-wanted c =
    let flood = origin_of c.args.session c.args.initiator in
    let unknown = remembered_is flood c.self.inside.memories.entries _ _ c.contains_key.ensures c.if-contains_key.false in
    rw (← c.self.view_is) (on_err c.from_residual.result (is_new (seen c.self.inside) flood unknown (omega (arith, c.len.ensures.len))))

pub returns-in_err-reserve-clause-wanted : goal.returns-in_err-reserve-clause-wanted
returns-in_err-reserve-clause-wanted c =
    let flood = origin_of c.args.session c.args.initiator in
    let unknown = remembered_is flood c.self.inside.memories.entries _ _ c.contains_key.ensures c.if-contains_key.false in
    rw (← c.self.view_is) (on_err c.from_residual-in_err-reserve.result (is_new (seen c.self.inside) flood unknown (omega (arith, c.len.ensures.len))))

pub returns-in_err-insert-clause-wanted : goal.returns-in_err-insert-clause-wanted
returns-in_err-insert-clause-wanted c =
    let flood = origin_of c.args.session c.args.initiator in
    let unknown = remembered_is flood c.self.inside.memories.entries _ _ c.contains_key.ensures c.if-contains_key.false in
    rw (← c.self.view_is) (on_err c.from_residual-in_err-insert.result (is_new (seen c.self.inside) flood unknown (omega (arith, c.len.ensures.len))))

-- a new one

pub invariant_of-self-2 : goal.invariant_of-self-2
invariant_of-self-2 c =
    let flood = origin_of c.args.session c.args.initiator in
    let unknown = remembered_is flood c.self.inside.memories.entries _ _ c.contains_key.ensures c.if-contains_key.false in
    let last = c.in_ok-insert.ensures.entries ∙ insert_entry_new flood c.reading_after-memory.result c.self.inside.memories.entries unknown in
    let room : length c.self.inside.memories.entries < 256 = omega (arith, c.len.ensures.len) in
    let below : c.earlier-self-inside.result ≤ c.self.inside.earliest = omega arith in
    let told = subst (KeptFrom c.earlier-self-inside.result) (sym c.in_ok-told.ensures) (all_told c.earlier-self-inside.result flood c.end_of-end.result c.args.parts.now c.earlier-self-inside.ensures.end) in
    rw (c.keep_all.ensures, last, c.reserve.ensures.entries) (
      sound_new (seen c.self.inside) flood c.reading_after-memory.result c.in_ok-told.told.items unknown room c.self.invariant.0,
      all_kept c.earlier-self-inside.result c.in_ok-told.told.items c.self.inside.entries.entries told (kept_before _ _ _ below c.self.invariant.1),
      All-push (λ m. c.earlier-self-inside.result ≤ m.1) c.self.inside.memories.entries (flood, c.reading_after-memory.result) (remembered_before _ _ _ below c.self.invariant.2) (omega arith),
    )

pub returns-clause-reply : goal.returns-clause-reply
returns-clause-reply c =
    let flood = origin_of c.args.session c.args.initiator in
    let unknown = remembered_is flood c.self.inside.memories.entries _ _ c.contains_key.ensures c.if-contains_key.false in
    rw (← c.self.view_is) (sym (is_new (seen c.self.inside) flood unknown (omega (arith, c.len.ensures.len))))

pub returns-clause-after : goal.returns-clause-after
returns-clause-after c =
    let flood = origin_of c.args.session c.args.initiator in
    let unknown = remembered_is flood c.self.inside.memories.entries _ _ c.contains_key.ensures c.if-contains_key.false in
    let last = c.in_ok-insert.ensures.entries ∙ insert_entry_new flood c.reading_after-memory.result c.self.inside.memories.entries unknown in
    rw (c.keep_all.ensures, last, c.reserve.ensures.entries, c.in_ok-told.ensures, c.end_of-end.ensures, c.reading_after-memory.ensures, ← c.self.view_is)

pub returns-clause-sound : goal.returns-clause-sound
returns-clause-sound c =
    let flood = origin_of c.args.session c.args.initiator in
    let unknown = remembered_is flood c.self.inside.memories.entries _ _ c.contains_key.ensures c.if-contains_key.false in
    let last = c.in_ok-insert.ensures.entries ∙ insert_entry_new flood c.reading_after-memory.result c.self.inside.memories.entries unknown in
    let room : length c.self.inside.memories.entries < 256 = omega (arith, c.len.ensures.len) in
    rw (c.keep_all.ensures, last, c.reserve.ensures.entries) (sound_new (seen c.self.inside) flood c.reading_after-memory.result c.in_ok-told.told.items unknown room c.self.invariant.0)
