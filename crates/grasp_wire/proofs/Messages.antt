-- Messages are read from their items.
use Rattle.std.proofs.Common.{◌≡◌, ◌<◌, ◌+◌, ◌^◌, ◌==◌, ℕ, Option, Some, None, option_map, List, [], ◌∷◌, ◌++◌, refl, sym, ap, subst, ◌∙◌, arith, cond, inl, inr, Bool, true, false, length, drop}
use Rattle.std.proofs.lemmas.Bool.{eqb-true}
use Rattle.std.specs.List.{slice_range}
use Rattle.std.proofs.lemmas.List.Folds.{drop_split}
use Rattle.std.proofs.lemmas.Option.{same_Some as some_same, none-some}
use Rattle.grasp_cbor.proofs.Takes.{chosen}
use Rattle.grasp_cbor.specs.DataItem.{DataItem, unsigned, array_of, data_items}
use Rattle.grasp_cbor.specs.Encodable.{AreEncodable}
use Rattle.grasp_types.specs.Address.{address_item, IsAddress}
use Rattle.grasp_types.specs.Message.{item_of, verdict_item, answer_items, flood_part_item, IsMessage, IsVerdict, IsFloodPart}
use Rattle.grasp_types.specs.Objective.{optional, objective_item, IsObjective, IsValue}
use Rattle.grasp_types.specs.declared.message.Message.{Message}
use Rattle.grasp_types.specs.declared.message.Message.TheVariants.{Noop, Discovery, Response, ReqNeg, ReqSyn, Negotiate, End, Wait, Synch, Flood, Invalid}
use Rattle.grasp_types.specs.declared.objective.Objective.{Objective}
use Rattle.grasp_wire.specs.Reading.{at_place, number_in, last_at, one_or_more}
use Rattle.grasp_wire.specs.ReadParts.{narrow_in, address_in, objective_in, verdict_in, value_in, answer_between, answer_end, flood_part_in}
use Rattle.grasp_wire.specs.ReadMessages.{told_of, req_neg_of, req_syn_of, negotiate_of, synch_of, noop_of, discovery_of, response_of, end_of, wait_of, flood_of, invalid_of, message_of_kind, message_of, message_in}
use Rattle.grasp_wire.proofs.Scalars.{Finds, some_bind, array_finds, narrow_finds}
use Rattle.grasp_wire.proofs.Addresses.{address_finds}
use Rattle.grasp_wire.proofs.Locators.{of_kind}
use Rattle.grasp_wire.proofs.Objectives.{value_finds, optional_same, objective_finds, verdict_finds, flood_part_finds}
use Rattle.grasp_wire.proofs.Responses.{range_rest, answer_found}
use Rattle.grasp_wire.proofs.Steps.{encodable_range, step, first_is, ends, and_then, last_found, some_found}

-- the array is that of this message, which is in range
abbrev pub IsRead : List DataItem → Message → Type 0
IsRead ts m = (array_of ts ≡ item_of m) × IsMessage m

abbrev Narrow : ℕ → Type 0
Narrow n = n < 2 ^ 32

narrow_step : (ts : List DataItem) (n x : ℕ) → AreEncodable (data_items ts) → at_place narrow_in ts n ≡ Some x → (drop n ts ≡ unsigned x ∷ drop (n + 1) ts) × Narrow x
narrow_step ts n x enc h = step narrow_in unsigned Narrow narrow_finds ts n x enc h

objective_step : (ts : List DataItem) (n : ℕ) (o : Objective) → AreEncodable (data_items ts) → at_place objective_in ts n ≡ Some o
    → (drop n ts ≡ objective_item o ∷ drop (n + 1) ts) × IsObjective o
objective_step ts n o enc h = step objective_in objective_item IsObjective objective_finds ts n o enc h

noop_found : (ts : List DataItem) (m : Message) → AreEncodable (data_items ts) → ts ≡ unsigned 0 ∷ drop 1 ts → noop_of ts ≡ Some m → IsRead ts m
unfolding noop_of
noop_found ts m enc kind h = elim (chosen (length ts == 1) (Some Noop) None (Some m) h) [
  | inl p ↦ subst (IsRead ts) (some_same Noop m p.1) (ap array_of (and_then (unsigned 0) ts (drop 1 ts) [] kind (ends ts 1 (eqb-true _ 1 p.0))), tt)
  | inr p ↦ absurd (none-some m p.1)
]

discovery_found : (ts : List DataItem) (m : Message) → AreEncodable (data_items ts) → ts ≡ unsigned 1 ∷ drop 1 ts → discovery_of ts ≡ Some m → IsRead ts m
unfolding discovery_of
discovery_found ts m enc kind h = elim (chosen (length ts == 4) _ None (Some m) h) [
  | inl p ↦
      let session = some_bind (at_place narrow_in ts 1) _ m p.1 in
      let initiator = some_bind (at_place address_in ts 2) _ m session.2 in
      let objective = some_bind (at_place objective_in ts 3) _ m initiator.2 in
      let a = narrow_step ts 1 session.0 enc session.1 in
      let b = step address_in address_item IsAddress address_finds ts 2 initiator.0 enc initiator.1 in
      let c = objective_step ts 3 objective.0 enc objective.1 in
      let parts = and_then (unsigned 1) ts (drop 1 ts) _ kind (and_then (unsigned session.0) (drop 1 ts) (drop 2 ts) _ a.0
      (and_then (address_item initiator.0) (drop 2 ts) (drop 3 ts) _ b.0 (and_then (objective_item objective.0) (drop 3 ts) (drop 4 ts) [] c.0 (ends ts 4 (eqb-true _ 4 p.0))))) in
      subst (IsRead ts) (some_same (Discovery session.0 initiator.0 objective.0) m objective.2) (ap array_of parts, (a.1, b.1, c.1))
  | inr p ↦ absurd (none-some m p.1)
]

response_found : (ts : List DataItem) (m : Message) → AreEncodable (data_items ts) → ts ≡ unsigned 2 ∷ drop 1 ts → response_of ts ≡ Some m → IsRead ts m
unfolding response_of
response_found ts m enc kind h =
    let session = some_bind (at_place narrow_in ts 1) _ m h in
    let initiator = some_bind (at_place address_in ts 2) _ m session.2 in
    let ttl = some_bind (at_place narrow_in ts 3) _ m initiator.2 in
    let answer = some_bind (answer_between ts 4 (answer_end ts)) _ m ttl.2 in
    let objective = some_bind (last_at objective_in ts (answer_end ts)) _ m answer.2 in
    let a = narrow_step ts 1 session.0 enc session.1 in
    let b = step address_in address_item IsAddress address_finds ts 2 initiator.0 enc initiator.1 in
    let c = narrow_step ts 3 ttl.0 enc ttl.1 in
    let d = answer_found ts 4 (answer_end ts) answer.0 enc answer.1 in
    let e = last_found objective_in objective_item IsObjective objective_finds ts (answer_end ts) objective.0 enc objective.1 in
    let rest : drop 4 ts ≡ answer_items answer.0 ++ optional (option_map objective_item objective.0)
    = drop_split ts 4 (answer_end ts) (omega (arith, d.2)) ∙ (λ i. d.0 i ++ e.0 i) in
    let parts = and_then (unsigned 2) ts (drop 1 ts) _ kind (and_then (unsigned session.0) (drop 1 ts) (drop 2 ts) _ a.0
    (and_then (address_item initiator.0) (drop 2 ts) (drop 3 ts) _ b.0 (and_then (unsigned ttl.0) (drop 3 ts) (drop 4 ts) _ c.0 rest))) in
    subst (IsRead ts) (some_same (Response session.0 initiator.0 ttl.0 answer.0 objective.0) m objective.2) (ap array_of parts, (a.1, b.1, c.1, d.1, e.1))

told_found : (ts : List DataItem) (told : ℕ × Objective) → AreEncodable (data_items ts) → told_of ts ≡ Some told
    → (drop 1 ts ≡ unsigned told.0 ∷ objective_item told.1 ∷ []) × Narrow told.0 × IsObjective told.1
unfolding told_of
told_found ts told enc h = elim (chosen (length ts == 3) _ None (Some told) h) [
  | inl p ↦
      let session = some_bind (at_place narrow_in ts 1) _ told p.1 in
      let objective = some_bind (at_place objective_in ts 2) _ told session.2 in
      let a = narrow_step ts 1 session.0 enc session.1 in
      let b = objective_step ts 2 objective.0 enc objective.1 in
      let made : ℕ × Objective = (session.0, objective.0) in
      subst (λ x. (drop 1 ts ≡ unsigned x.0 ∷ objective_item x.1 ∷ []) × Narrow x.0 × IsObjective x.1) (some_same made told objective.2)
      (and_then (unsigned session.0) (drop 1 ts) (drop 2 ts) _ a.0 (and_then (objective_item objective.0) (drop 2 ts) (drop 3 ts) [] b.0 (ends ts 3 (eqb-true _ 3 p.0))), a.1, b.1)
  | inr p ↦ absurd (none-some told p.1)
]

req_neg_found : (ts : List DataItem) (m : Message) → AreEncodable (data_items ts) → ts ≡ unsigned 3 ∷ drop 1 ts → req_neg_of ts ≡ Some m → IsRead ts m
unfolding req_neg_of
req_neg_found ts m enc kind h =
    let told = some_bind (told_of ts) _ m h in
    let t = told_found ts told.0 enc told.1 in
    subst (IsRead ts) (some_same (ReqNeg told.0.0 told.0.1) m told.2) (ap array_of (and_then (unsigned 3) ts (drop 1 ts) _ kind t.0), (t.1, t.2))

req_syn_found : (ts : List DataItem) (m : Message) → AreEncodable (data_items ts) → ts ≡ unsigned 4 ∷ drop 1 ts → req_syn_of ts ≡ Some m → IsRead ts m
unfolding req_syn_of
req_syn_found ts m enc kind h =
    let told = some_bind (told_of ts) _ m h in
    let t = told_found ts told.0 enc told.1 in
    subst (IsRead ts) (some_same (ReqSyn told.0.0 told.0.1) m told.2) (ap array_of (and_then (unsigned 4) ts (drop 1 ts) _ kind t.0), (t.1, t.2))

negotiate_found : (ts : List DataItem) (m : Message) → AreEncodable (data_items ts) → ts ≡ unsigned 5 ∷ drop 1 ts → negotiate_of ts ≡ Some m → IsRead ts m
unfolding negotiate_of
negotiate_found ts m enc kind h =
    let told = some_bind (told_of ts) _ m h in
    let t = told_found ts told.0 enc told.1 in
    subst (IsRead ts) (some_same (Negotiate told.0.0 told.0.1) m told.2) (ap array_of (and_then (unsigned 5) ts (drop 1 ts) _ kind t.0), (t.1, t.2))

synch_found : (ts : List DataItem) (m : Message) → AreEncodable (data_items ts) → ts ≡ unsigned 8 ∷ drop 1 ts → synch_of ts ≡ Some m → IsRead ts m
unfolding synch_of
synch_found ts m enc kind h =
    let told = some_bind (told_of ts) _ m h in
    let t = told_found ts told.0 enc told.1 in
    subst (IsRead ts) (some_same (Synch told.0.0 told.0.1) m told.2) (ap array_of (and_then (unsigned 8) ts (drop 1 ts) _ kind t.0), (t.1, t.2))

end_found : (ts : List DataItem) (m : Message) → AreEncodable (data_items ts) → ts ≡ unsigned 6 ∷ drop 1 ts → end_of ts ≡ Some m → IsRead ts m
unfolding end_of
end_found ts m enc kind h = elim (chosen (length ts == 3) _ None (Some m) h) [
  | inl p ↦
      let session = some_bind (at_place narrow_in ts 1) _ m p.1 in
      let verdict = some_bind (at_place verdict_in ts 2) _ m session.2 in
      let a = narrow_step ts 1 session.0 enc session.1 in
      let b = step verdict_in verdict_item IsVerdict verdict_finds ts 2 verdict.0 enc verdict.1 in
      let parts = and_then (unsigned 6) ts (drop 1 ts) _ kind (and_then (unsigned session.0) (drop 1 ts) (drop 2 ts) _ a.0
      (and_then (verdict_item verdict.0) (drop 2 ts) (drop 3 ts) [] b.0 (ends ts 3 (eqb-true _ 3 p.0)))) in
      subst (IsRead ts) (some_same (End session.0 verdict.0) m verdict.2) (ap array_of parts, (a.1, b.1))
  | inr p ↦ absurd (none-some m p.1)
]

wait_found : (ts : List DataItem) (m : Message) → AreEncodable (data_items ts) → ts ≡ unsigned 7 ∷ drop 1 ts → wait_of ts ≡ Some m → IsRead ts m
unfolding wait_of
wait_found ts m enc kind h = elim (chosen (length ts == 3) _ None (Some m) h) [
  | inl p ↦
      let session = some_bind (at_place narrow_in ts 1) _ m p.1 in
      let millis = some_bind (at_place narrow_in ts 2) _ m session.2 in
      let a = narrow_step ts 1 session.0 enc session.1 in
      let b = narrow_step ts 2 millis.0 enc millis.1 in
      let parts = and_then (unsigned 7) ts (drop 1 ts) _ kind (and_then (unsigned session.0) (drop 1 ts) (drop 2 ts) _ a.0
      (and_then (unsigned millis.0) (drop 2 ts) (drop 3 ts) [] b.0 (ends ts 3 (eqb-true _ 3 p.0)))) in
      subst (IsRead ts) (some_same (Wait session.0 millis.0) m millis.2) (ap array_of parts, (a.1, b.1))
  | inr p ↦ absurd (none-some m p.1)
]

flood_found : (ts : List DataItem) (m : Message) → AreEncodable (data_items ts) → ts ≡ unsigned 9 ∷ drop 1 ts → flood_of ts ≡ Some m → IsRead ts m
unfolding flood_of
flood_found ts m enc kind h =
    let session = some_bind (at_place narrow_in ts 1) _ m h in
    let initiator = some_bind (at_place address_in ts 2) _ m session.2 in
    let ttl = some_bind (at_place narrow_in ts 3) _ m initiator.2 in
    let told = some_bind (one_or_more flood_part_in (slice_range ts 4 (length ts))) _ m ttl.2 in
    let a = narrow_step ts 1 session.0 enc session.1 in
    let b = step address_in address_item IsAddress address_finds ts 2 initiator.0 enc initiator.1 in
    let c = narrow_step ts 3 ttl.0 enc ttl.1 in
    let d = some_found flood_part_in flood_part_item IsFloodPart flood_part_finds (slice_range ts 4 (length ts)) told.0 (encodable_range ts 4 (length ts) enc) told.1 in
    let parts = and_then (unsigned 9) ts (drop 1 ts) _ kind (and_then (unsigned session.0) (drop 1 ts) (drop 2 ts) _ a.0
    (and_then (address_item initiator.0) (drop 2 ts) (drop 3 ts) _ b.0 (and_then (unsigned ttl.0) (drop 3 ts) (drop 4 ts) _ c.0 (sym (range_rest ts 4) ∙ d.0)))) in
    subst (IsRead ts) (some_same (Flood session.0 initiator.0 ttl.0 told.0) m told.2) (ap array_of parts, (a.1, b.1, c.1, record { some = d.1; each = d.2 }))

invalid_found : (ts : List DataItem) (m : Message) → AreEncodable (data_items ts) → ts ≡ unsigned 99 ∷ drop 1 ts → invalid_of ts ≡ Some m → IsRead ts m
unfolding invalid_of
invalid_found ts m enc kind h =
    let session = some_bind (at_place narrow_in ts 1) _ m h in
    let detail = some_bind (last_at value_in ts 2) _ m session.2 in
    let a = narrow_step ts 1 session.0 enc session.1 in
    let b = last_found value_in (λ t. t) IsValue value_finds ts 2 detail.0 enc detail.1 in
    let parts = and_then (unsigned 99) ts (drop 1 ts) _ kind (and_then (unsigned session.0) (drop 1 ts) (drop 2 ts) _ a.0 (b.0 ∙ optional_same detail.0)) in
    subst (IsRead ts) (some_same (Invalid session.0 detail.0) m detail.2) (ap array_of parts, (a.1, b.1))

pick : {P : Type 0} (b : Bool) (x y : Option Message) (m : Message) → cond b x y ≡ Some m → (b ≡ true → x ≡ Some m → P) → (y ≡ Some m → P) → P
pick true x y m h f g = f refl h
pick false x y m h f g = g h

kind_found : (ts : List DataItem) (k : ℕ) (m : Message) → AreEncodable (data_items ts) → ts ≡ unsigned k ∷ drop 1 ts → message_of_kind k ts ≡ Some m → IsRead ts m
unfolding message_of_kind
kind_found ts k m enc first h =
    pick (k == 0) (noop_of ts) _ m h (λ is e. noop_found ts m enc (of_kind ts k 0 first is) e) (λ h1.
    pick (k == 1) (discovery_of ts) _ m h1 (λ is e. discovery_found ts m enc (of_kind ts k 1 first is) e) (λ h2.
    pick (k == 2) (response_of ts) _ m h2 (λ is e. response_found ts m enc (of_kind ts k 2 first is) e) (λ h3.
    pick (k == 3) (req_neg_of ts) _ m h3 (λ is e. req_neg_found ts m enc (of_kind ts k 3 first is) e) (λ h4.
    pick (k == 4) (req_syn_of ts) _ m h4 (λ is e. req_syn_found ts m enc (of_kind ts k 4 first is) e) (λ h5.
    pick (k == 5) (negotiate_of ts) _ m h5 (λ is e. negotiate_found ts m enc (of_kind ts k 5 first is) e) (λ h6.
    pick (k == 6) (end_of ts) _ m h6 (λ is e. end_found ts m enc (of_kind ts k 6 first is) e) (λ h7.
    pick (k == 7) (wait_of ts) _ m h7 (λ is e. wait_found ts m enc (of_kind ts k 7 first is) e) (λ h8.
    pick (k == 8) (synch_of ts) _ m h8 (λ is e. synch_found ts m enc (of_kind ts k 8 first is) e) (λ h9.
    pick (k == 9) (flood_of ts) _ m h9 (λ is e. flood_found ts m enc (of_kind ts k 9 first is) e) (λ h10.
    pick (k == 99) (invalid_of ts) None m h10 (λ is e. invalid_found ts m enc (of_kind ts k 99 first is) e) (λ h11.
    absurd (none-some m h11))))))))))))

parts_found : (ts : List DataItem) (m : Message) → AreEncodable (data_items ts) → message_of ts ≡ Some m → IsRead ts m
unfolding message_of
parts_found ts m enc h =
    let k = some_bind (at_place number_in ts 0) _ m h in
    kind_found ts k.0 m enc (first_is ts k.0 enc k.1) k.2

pub message_finds : Finds message_in item_of IsMessage
unfolding message_in
message_finds t m enc h = array_finds message_of item_of IsMessage parts_found t m enc h
