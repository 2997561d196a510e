-- Objectives, verdicts and parts of floods are read from their items.
use Rattle.std.proofs.Common.{◌≡◌, ◌<◌, ◌≤◌, ◌^◌, ◌==◌, ℕ, Option, Some, None, IfSome, option_map, List, [], ◌∷◌, refl, ap, subst, ◌∙◌, arith, rules, cond, inl, inr, nat_le, true, length, drop}
use Rattle.std.proofs.lemmas.Bool.{eqb-true}
use Rattle.std.proofs.lemmas.Bool.Decides.{nat_tests}
use Rattle.std.proofs.lemmas.Option.{same_Some as some_same, none-some}
use Rattle.std.specs.Str.{IsUtf8}
use Rattle.grasp_cbor.proofs.Takes.{chosen}
use Rattle.grasp_cbor.specs.DataItem.{DataItem, unsigned, text_string, array_of, depth_of}
use Rattle.grasp_types.specs.Address.{IsLocator}
use Rattle.grasp_types.specs.Message.{verdict_item, IsVerdict, locator_or_empty, flood_part_item, IsFloodPart}
use Rattle.grasp_types.specs.Objective.{optional, objective_item, IsObjective, IsValue}
use Rattle.grasp_types.specs.declared.flood.FloodPart.{FloodPart}
use Rattle.grasp_types.specs.declared.message.Verdict.{Verdict}
use Rattle.grasp_types.specs.declared.message.Verdict.TheVariants.{Accept, Decline}
use Rattle.grasp_types.specs.declared.objective.Objective.{Objective}
use Rattle.grasp_wire.specs.Reading.{◌>>=◌, at_place, number_in, text_in, last_at}
use Rattle.grasp_wire.specs.ReadParts.{flags_in, loops_in, value_in, objective_of, objective_in, verdict_of, verdict_in, locator_or_empty_in, flood_part_of, flood_part_in}
use Rattle.grasp_wire.proofs.Scalars.{Finds, Again, PartsFind, some_bind, array_finds, array_again, flags_finds, flags_again, loops_finds, loops_again, text_finds}
use Rattle.grasp_wire.proofs.Locators.{of_kind, locator_or_empty_finds, locator_or_empty_again}
use Rattle.grasp_wire.proofs.Steps.{step, first_is, ends, and_then, last_found}

-- values

shallow_is : (n : ℕ) → nat_le n 13 ≡ true → n ≤ 13
shallow_is n h = search (rules, nat_tests)

is_shallow : (n : ℕ) → n ≤ 13 → nat_le n 13 ≡ true
is_shallow n h = search (rules, nat_tests)

pub value_finds : Finds value_in (λ t. t) IsValue
unfolding value_in
value_finds t v enc h = elim (chosen (nat_le (depth_of t) 13) (Some t) None (Some v) h) [
  | inl p ↦ let e = some_same t v p.1 in (e, subst IsValue e (record { within = shallow_is (depth_of t) p.0; encodable = enc }))
  | inr p ↦ absurd (none-some v p.1)
]

pub value_again : Again value_in (λ t. t) IsValue
unfolding value_in
value_again t h = ap (λ b. cond b (Some t) None) (is_shallow (depth_of t) h.within)

pub optional_same : (o : Option DataItem) → optional (option_map (λ t. t) o) ≡ optional o
optional_same None = refl
optional_same (Some t) = refl

-- objectives

abbrev IsOf : List DataItem → Objective → Type 0
IsOf ts o = (array_of ts ≡ objective_item o) × IsObjective o

below_16 : (n : ℕ) → n < 16 → n ≤ 15
below_16 n h = omega arith

within_15 : (n : ℕ) → n ≤ 15 → n < 16
within_15 n h = omega arith

objective_parts_find : PartsFind objective_of objective_item IsObjective
unfolding objective_of
objective_parts_find ts o enc h =
    let name = some_bind (at_place text_in ts 0) _ o h in
    let flags = some_bind (at_place flags_in ts 1) _ o name.2 in
    let loops = some_bind (at_place loops_in ts 2) _ o flags.2 in
    let value = some_bind (last_at value_in ts 3) _ o loops.2 in
    let a = step text_in text_string IsUtf8 text_finds ts 0 name.0 enc name.1 in
    let b = step flags_in unsigned (λ n. n < 16) flags_finds ts 1 flags.0 enc flags.1 in
    let c = step loops_in unsigned (λ n. n < 2 ^ 8) loops_finds ts 2 loops.0 enc loops.1 in
    let d = last_found value_in (λ t. t) IsValue value_finds ts 3 value.0 enc value.1 in
    let made : Objective = record { name = name.0; flags = flags.0; loops = loops.0; value = value.0 } in
    let parts = and_then (text_string name.0) ts (drop 1 ts) _ a.0 (and_then (unsigned flags.0) (drop 1 ts) (drop 2 ts) _ b.0
    (and_then (unsigned loops.0) (drop 2 ts) (drop 3 ts) _ c.0 (d.0 ∙ optional_same value.0))) in
    subst (IsOf ts) (some_same made o value.2) (ap array_of parts, record { name = a.1; flags = below_16 flags.0 b.1; loops = c.1; value = d.1 })

pub objective_finds : Finds objective_in objective_item IsObjective
unfolding objective_in
objective_finds t o enc h = array_finds objective_of objective_item IsObjective objective_parts_find t o enc h

objective_back : (name : List ℕ) (flags loops : ℕ) (value : Option DataItem) → flags < 16 → loops < 2 ^ 8 → IfSome value IsValue
    → objective_of (text_string name ∷ unsigned flags ∷ unsigned loops ∷ optional value) ≡ Some (record { name = name; flags = flags; loops = loops; value = value })
unfolding objective_of
objective_back name flags loops None f l v = rw (flags_again flags f, loops_again loops l) refl
objective_back name flags loops (Some t) f l v = rw (flags_again flags f, loops_again loops l, value_again t v) refl

pub objective_again : Again objective_in objective_item IsObjective
unfolding objective_in
objective_again o h =
    array_again objective_of (text_string o.name ∷ unsigned o.flags ∷ unsigned o.loops ∷ optional o.value)
    ∙ objective_back o.name o.flags o.loops o.value (within_15 o.flags h.flags) h.loops h.value

-- verdicts

abbrev IsOfVerdict : List DataItem → Verdict → Type 0
IsOfVerdict ts v = (array_of ts ≡ verdict_item v) × IsVerdict v

verdict_parts_find : PartsFind verdict_of verdict_item IsVerdict
unfolding verdict_of
verdict_parts_find ts v enc h =
    let k = some_bind (at_place number_in ts 0) _ v h in
    let first = first_is ts k.0 enc k.1 in
    elim (chosen (k.0 == 101) (cond (length ts == 1) (Some Accept) None) _ (Some v) k.2) [
      | inl p ↦ elim (chosen (length ts == 1) (Some Accept) None (Some v) p.1) [
        | inl q ↦ subst (IsOfVerdict ts) (some_same Accept v q.1)
            (ap array_of (and_then (unsigned 101) ts (drop 1 ts) [] (of_kind ts k.0 101 first p.0) (ends ts 1 (eqb-true _ 1 q.0))), tt)
        | inr q ↦ absurd (none-some v q.1)
      ]
      | inr p ↦ elim (chosen (k.0 == 102) (last_at text_in ts 1 >>= λ reason. Some (Decline reason)) None (Some v) p.1) [
        | inl q ↦
            let reason = some_bind (last_at text_in ts 1) (λ r. Some (Decline r)) v q.1 in
            let d = last_found text_in text_string IsUtf8 text_finds ts 1 reason.0 enc reason.1 in
            subst (IsOfVerdict ts) (some_same (Decline reason.0) v reason.2)
            (ap array_of (and_then (unsigned 102) ts (drop 1 ts) _ (of_kind ts k.0 102 first q.0) d.0), d.1)
        | inr q ↦ absurd (none-some v q.1)
      ]
    ]

pub verdict_finds : Finds verdict_in verdict_item IsVerdict
unfolding verdict_in
verdict_finds t v enc h = array_finds verdict_of verdict_item IsVerdict verdict_parts_find t v enc h

pub verdict_again : Again verdict_in verdict_item IsVerdict
unfolding verdict_in verdict_of
verdict_again Accept h = refl
verdict_again (Decline None) h = refl
verdict_again (Decline (Some reason)) h = refl

-- parts of floods

abbrev IsOfPart : List DataItem → FloodPart → Type 0
IsOfPart ts p = (array_of ts ≡ flood_part_item p) × IsFloodPart p

flood_part_parts_find : PartsFind flood_part_of flood_part_item IsFloodPart
unfolding flood_part_of
flood_part_parts_find ts p enc h = elim (chosen (length ts == 2) _ None (Some p) h) [
  | inl q ↦
      let o = some_bind (at_place objective_in ts 0) _ p q.1 in
      let l = some_bind (at_place locator_or_empty_in ts 1) _ p o.2 in
      let a = step objective_in objective_item IsObjective objective_finds ts 0 o.0 enc o.1 in
      let b = step locator_or_empty_in locator_or_empty (λ v. IfSome v IsLocator) locator_or_empty_finds ts 1 l.0 enc l.1 in
      let made : FloodPart = record { objective = o.0; locator = l.0 } in
      subst (IsOfPart ts) (some_same made p l.2) (
        ap array_of (and_then (objective_item o.0) ts (drop 1 ts) _ a.0 (and_then (locator_or_empty l.0) (drop 1 ts) (drop 2 ts) _ b.0 (ends ts 2 (eqb-true _ 2 q.0)))),
        record { objective = a.1; locator = b.1 },
      )
  | inr q ↦ absurd (none-some p q.1)
]

pub flood_part_finds : Finds flood_part_in flood_part_item IsFloodPart
unfolding flood_part_in
flood_part_finds t p enc h = array_finds flood_part_of flood_part_item IsFloodPart flood_part_parts_find t p enc h

pub flood_part_again : Again flood_part_in flood_part_item IsFloodPart
unfolding flood_part_in flood_part_of
flood_part_again p h = rw (objective_again p.objective h.objective, locator_or_empty_again p.locator h.locator) refl
