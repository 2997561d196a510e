-- What a crash leaves while a slot is closed, filled and opened.
use Rattle.std.proofs.Common.{◌≡◌, ◌≢◌, ◌⊎◌, inl, inr, ⊎_elim, ℕ, ◌+◌, ◌<◌, ◌≤◌, List, [], ◌∷◌, length, get_or, drop, Option, None, Some, refl, sym, ◌∙◌, ap, subst, arith}
use Rattle.std.proofs.lemmas.Bool.{cases_eq}
use Rattle.std.proofs.lemmas.Option.{none-some, same_Some}
use Rattle.grasp_disk.specs.Calls.{overlaid, piece}
use Rattle.grasp_disk.specs.Crashes.{DifferIn}
use Rattle.grasp_disk.proofs.Bytes.{length-overlaid, overlaid_differ}
use Rattle.grasp_store.specs.Current.{IsNewest, IsCurrent, current_in, current_place, number_of}
use Rattle.grasp_store.specs.Saving.{next_place}
use Rattle.grasp_store.specs.Slots.{Saved, Fits, body_of, body_size, gate_of, other, saved_in, slot_in}
use Rattle.grasp_store.specs.declared.place.Place.{Place}
use Rattle.grasp_store.specs.declared.place.Place.TheVariants.{First, Second}
use Rattle.grasp_store.proofs.Codec.{body_back}
use Rattle.grasp_store.proofs.Newest.{IsUsedDisk, blank_or_used, twice}
use Rattle.grasp_store.proofs.Pieces.{piece_overlaid}
use Rattle.grasp_store.proofs.SlotParts.{behind_gate, body_fits, body_within, byte_there, behind_kept, gate_fits, gate_kept, gate_within, other_kept, slot_holds, slot_opened, slot_shut, shut_gate}

-- ---- one slot

-- the other slot stays, and this one stays or is closed
pub record StaysOrCloses (place : Place) (old new : List ℕ) : Type 0 where
  pub kept : slot_in new (other place) ≡ slot_in old (other place)
  pub this : (slot_in new place ≡ None) ⊎ (slot_in new place ≡ slot_in old place)

-- the other slot stays, and this one is closed or holds x
pub record ClosedOrHolds (place : Place) (x : Saved) (old new : List ℕ) : Type 0 where
  pub kept : slot_in new (other place) ≡ slot_in old (other place)
  pub this : (slot_in new place ≡ None) ⊎ (slot_in new place ≡ Some x)

-- where only the gate changes, an open slot stays or is closed
pub stays_or_closes : (place : Place) (b : List ℕ) (y : Saved) → slot_in b place ≡ Some y → (c : List ℕ) → DifferIn (gate_of place) 1 b c → StaysOrCloses place b c
stays_or_closes place b y holds c differ = record {
  kept = other_kept place (gate_of place) 1 b c (gate_within place) differ;
  this = elim (cases_eq (get_or c (gate_of place) 0) 1) [
    | inl is ↦ inr (slot_opened c place is ∙ ap (λ (l : List ℕ). Some (saved_in l)) (behind_kept place b c differ) ∙ ap (λ (z : Saved). Some z) (slot_holds b place y holds).1 ∙ sym holds)
    | inr shut ↦ inl (slot_shut c place shut)
  ];
}

-- a content in which this slot is closed, and the other is as before
pub record IsCleared (place : Place) (old new : List ℕ) : Type 0 where
  pub size : length new ≡ 140000
  pub kept : slot_in new (other place) ≡ slot_in old (other place)
  pub closed : slot_in new place ≡ None

shut_by : (n : ℕ) → n ≡ 0 → n ≢ 1
shut_by n zero = omega (arith, zero)

-- a gate that is closed
pub gate_closed : (place : Place) (b : List ℕ) → length b ≡ 140000 → IsCleared place b (overlaid b (gate_of place) (0 ∷ []))
gate_closed place b size = record {
  size = length-overlaid b (gate_of place) (0 ∷ []) fits ∙ size;
  kept = other_kept place (gate_of place) 1 b (overlaid b (gate_of place) (0 ∷ [])) (gate_within place) (overlaid_differ b (gate_of place) (0 ∷ []) fits);
  closed = slot_shut (overlaid b (gate_of place) (0 ∷ [])) place (shut_by _ (byte_there b (gate_of place) 0 fits));
}
  where
    fits : gate_of place + 1 ≤ length b
    fits = gate_fits place (length b) size

module _ (place : Place) (b : List ℕ) (size : length b ≡ 140000) (closed : slot_in b place ≡ None) (x : Saved) (fits_x : Fits x) (few : length (body_of x) ≤ body_size) where
  abbrev body : List ℕ
  body = body_of x

  -- what stands there when the body is written
  abbrev pub filled : List ℕ
  filled = overlaid b (gate_of place + 1) (body_of x)

  room : gate_of place + 1 + body_size ≤ length b
  room = body_fits place (length b) size

  pub fits_body : gate_of place + 1 + length (body_of x) ≤ length b
  fits_body = omega (arith, room, few)

  -- behind the gate stands x then
  holds_x : saved_in (behind_gate filled place) ≡ x
  holds_x = ap saved_in (piece_overlaid b (gate_of place + 1) body body_size few room) ∙ body_back x fits_x (drop (length body) (piece b (gate_of place + 1) body_size))

  pub size_filled : length filled ≡ 140000
  size_filled = length-overlaid b (gate_of place + 1) body fits_body ∙ size

  kept_filled : slot_in filled (other place) ≡ slot_in b (other place)
  kept_filled = other_kept place (gate_of place + 1) (length body) b filled (body_within place (length body) few) (overlaid_differ b (gate_of place + 1) body fits_body)

  -- while the body is written
  pub stays_closed : (c : List ℕ) → DifferIn (gate_of place + 1) (length (body_of x)) b c → ClosedOrHolds place x b c
  stays_closed c differ = record {
    kept = other_kept place (gate_of place + 1) (length body) b c (body_within place (length body) few) differ;
    this = inl (slot_shut c place (λ is. shut_gate b place closed (sym (gate_kept place (length body) b c differ) ∙ is)));
  }

  -- while the gate is opened
  pub opens : (c : List ℕ) → DifferIn (gate_of place) 1 filled c → ClosedOrHolds place x b c
  opens c differ = record {
    kept = other_kept place (gate_of place) 1 filled c (gate_within place) differ ∙ kept_filled;
    this = elim (cases_eq (get_or c (gate_of place) 0) 1) [
      | inl is ↦ inr (slot_opened c place is ∙ ap (λ (l : List ℕ). Some (saved_in l)) (behind_kept place filled c differ) ∙ ap (λ (z : Saved). Some z) holds_x)
      | inr shut ↦ inl (slot_shut c place shut)
    ];
  }

  pub fits_gate : gate_of place + 1 ≤ length filled
  fits_gate = gate_fits place (length filled) size_filled

  abbrev pub opened : List ℕ
  opened = overlaid filled (gate_of place) (1 ∷ [])

  -- behind all of it
  pub size_opened : length opened ≡ 140000
  size_opened = length-overlaid filled (gate_of place) (1 ∷ []) fits_gate ∙ size_filled

  pub kept_opened : slot_in opened (other place) ≡ slot_in b (other place)
  kept_opened = other_kept place (gate_of place) 1 filled opened (gate_within place) (overlaid_differ filled (gate_of place) (1 ∷ []) fits_gate) ∙ kept_filled

  pub holds_opened : slot_in opened place ≡ Some x
  holds_opened =
      slot_opened opened place (byte_there filled (gate_of place) 1 fits_gate)
      ∙ ap (λ (l : List ℕ). Some (saved_in l)) (behind_kept place filled opened (overlaid_differ filled (gate_of place) (1 ∷ []) fits_gate))
      ∙ ap (λ (z : Saved). Some z) holds_x

-- ---- what is current

-- both slots are closed
none_of : (b : List ℕ) (place : Place) → slot_in b place ≡ None → slot_in b (other place) ≡ None → IsCurrent b None
none_of b First this that = (this, that)
none_of b Second this that = (that, this)

none_here : (b : List ℕ) → IsCurrent b None → (place : Place) → slot_in b place ≡ None
none_here b none First = none.0
none_here b none Second = none.1

-- a slot may be filled next: what the other one holds is no newer than this number, and what is current is there
pub record IsReady (b : List ℕ) (place : Place) (number : ℕ) : Type 0 where
  pub older : (w : Saved) → slot_in b (other place) ≡ Some w → w.number < number + 1
  pub there : (z : Saved) → current_in b ≡ Some z → IsNewest b (other place) z

pub ready : (b : List ℕ) → IsCurrent b (current_in b) → IsReady b (next_place (current_place b)) (number_of (current_in b))
ready b current = elim (blank_or_used b current) [
  | inl blank ↦ subst (λ (o : Option Place). IsReady b (next_place o) (number_of (current_in b))) (sym blank.place) (record {
    older = λ w is. absurd (none-some w (sym blank.second ∙ is));
    there = λ z is. absurd (none-some z (sym blank.saved ∙ is));
  })
  | inr used ↦ subst (λ (o : Option Place). IsReady b (next_place o) (number_of (current_in b))) (sym used.place_is) (record {
    older = λ w is. older_than used w (same_Some w used.saved (sym is ∙ ap (slot_in b) (twice used.place) ∙ used.newest.holds));
    there = λ z is. subst (λ (p : Place). IsNewest b p z) (sym (twice used.place)) (subst (λ (y : Saved). IsNewest b used.place y) (same_Some used.saved z (sym used.saved_is ∙ is)) used.newest);
  })
]
  where
    older_than : (used : IsUsedDisk b) (w : Saved) → w ≡ used.saved → w.number < number_of (current_in b) + 1
    older_than used w same = omega (arith, ap (λ (v : Saved). v.number) same, ap number_of used.saved_is)

module _ (b : List ℕ) (place : Place) (number : ℕ) (is_ready : IsReady b place number) where
  -- while the slot is closed, what is current stays so
  pub closing_keeps : IsCurrent b (current_in b) → (c : List ℕ) → StaysOrCloses place b c → IsCurrent c (current_in b)
  closing_keeps current c stays = by_current (current_in b) refl current
    where
      this_none : IsCurrent b None → slot_in c place ≡ None
      this_none none = ⊎_elim (λ closed. closed) (λ same. same ∙ none_here b none place) stays.this

      older_here : (z : Saved) → IsNewest b (other place) z → (w : Saved) → slot_in c place ≡ Some w → w.number < z.number
      older_here z newest w here = elim stays.this [
        | inl closed ↦ absurd (none-some w (sym closed ∙ here))
        | inr same ↦ newest.older w (ap (slot_in b) (twice place) ∙ sym same ∙ here)
      ]

      by_current : (o : Option Saved) → current_in b ≡ o → IsCurrent b o → IsCurrent c o
      by_current None is none = none_of c place (this_none none) (stays.kept ∙ none_here b none (other place))
      by_current (Some z) is newest =
          let there : IsNewest b (other place) z = is_ready.there z is
          in (other place, record { holds = stays.kept ∙ there.holds; older = λ w has. older_here z there w (sym (ap (slot_in c) (twice place)) ∙ has) })

  module _ (x : Saved) (is_next : x.number ≡ number + 1) where
    -- where x stands in the slot it is current
    pub new_current : (c : List ℕ) → slot_in c (other place) ≡ slot_in b (other place) → slot_in c place ≡ Some x → IsNewest c place x
    new_current c kept holds = record { holds = holds; older = λ w has. subst (λ (n : ℕ). w.number < n) (sym is_next) (is_ready.older w (sym kept ∙ has)) }

    -- while it is filled, what was current stays so, or x is
    pub filling_keeps : IsCurrent b (current_in b) → (c : List ℕ) → slot_in c (other place) ≡ slot_in b (other place) → (slot_in c place ≡ None) ⊎ (slot_in c place ≡ Some x)
        → IsCurrent c (current_in b) ⊎ IsCurrent c (Some x)
    filling_keeps current c kept this = elim this [
      | inl closed ↦ inl (closing_keeps current c (record { kept = kept; this = inl closed }))
      | inr holds ↦ inr (place, new_current c kept holds)
    ]
