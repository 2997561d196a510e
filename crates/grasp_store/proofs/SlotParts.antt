-- What becomes of slots where a content changes beside them, at their gate, or behind it.
use Rattle.std.proofs.Common.{◌≡◌, ◌≢◌, inl, inr, ℕ, ◌+◌, ◌-◌, ◌≤◌, List, [], ◌∷◌, length, get_or, take, drop, None, Some, sym, ◌∙◌, ap, arith, drop-drop}
use Rattle.std.proofs.lemmas.Bool.{cases_eq}
use Rattle.std.proofs.lemmas.Bool.Decides.{nat_tests}
use Rattle.std.proofs.lemmas.List.{drop-take}
use Rattle.std.proofs.lemmas.Option.{none-some, same_Some}
use Rattle.grasp_disk.specs.Calls.{overlaid, piece}
use Rattle.grasp_disk.specs.Crashes.{DifferIn}
use Rattle.grasp_disk.proofs.Bytes.{at_piece, overlaid_within}
use Rattle.grasp_store.specs.Slots.{Saved, gate_of, other, saved_in, slot_in, slot_of, slot_size, body_size}
use Rattle.grasp_store.specs.declared.place.Place.{Place}
use Rattle.grasp_store.specs.declared.place.Place.TheVariants.{First, Second}
use Rattle.grasp_store.proofs.Pieces.{piece_same}

-- the bytes behind a slot's gate
abbrev pub behind_gate : List ℕ → Place → List ℕ
behind_gate bytes place = piece bytes (gate_of place + 1) body_size

-- ---- a slot's bytes

-- what is behind the first byte of a piece
pub piece_behind : (bytes : List ℕ) (at n : ℕ) → drop 1 (piece bytes at (1 + n)) ≡ piece bytes (at + 1) n
piece_behind bytes at n = drop-take 1 n (drop at bytes) ∙ ap (take n) (drop-drop 1 at bytes)

gate_at : (c : List ℕ) (place : Place) → get_or (piece c (gate_of place) slot_size) 0 0 ≡ get_or c (gate_of place) 0
gate_at c place = at_piece c (gate_of place) slot_size 0 0 (omega arith) ∙ ap (λ (k : ℕ). get_or c k 0) (plus_none (gate_of place))
  where
    plus_none : (n : ℕ) → n + 0 ≡ n
    plus_none n = omega arith

pub of_shut : (slot : List ℕ) → get_or slot 0 0 ≢ 1 → slot_of slot ≡ None
unfolding slot_of
of_shut slot shut = grind (arith, nat_tests)

pub of_opened : (slot : List ℕ) → get_or slot 0 0 ≡ 1 → slot_of slot ≡ Some (saved_in (drop 1 slot))
unfolding slot_of
of_opened slot is = grind (arith, nat_tests)

pub slot_shut : (c : List ℕ) (place : Place) → get_or c (gate_of place) 0 ≢ 1 → slot_in c place ≡ None
slot_shut c place shut = of_shut (piece c (gate_of place) slot_size) (λ is. shut (sym (gate_at c place) ∙ is))

pub slot_opened : (c : List ℕ) (place : Place) → get_or c (gate_of place) 0 ≡ 1 → slot_in c place ≡ Some (saved_in (behind_gate c place))
slot_opened c place is =
    of_opened (piece c (gate_of place) slot_size) (gate_at c place ∙ is) ∙ ap (λ (l : List ℕ). Some (saved_in l)) (piece_behind c (gate_of place) body_size)

-- what an open slot holds is what stands behind its gate
pub slot_holds : (b : List ℕ) (place : Place) (y : Saved) → slot_in b place ≡ Some y → (get_or b (gate_of place) 0 ≡ 1) × (saved_in (behind_gate b place) ≡ y)
slot_holds b place y holds = elim (cases_eq (get_or b (gate_of place) 0) 1) [
  | inl is ↦ (is, same_Some _ _ (sym (slot_opened b place is) ∙ holds))
  | inr shut ↦ absurd (none-some y (sym (slot_shut b place shut) ∙ holds))
]

pub shut_gate : (b : List ℕ) (place : Place) → slot_in b place ≡ None → get_or b (gate_of place) 0 ≢ 1
shut_gate b place none is = none-some _ (sym none ∙ slot_opened b place is)

-- ---- a range in one slot

-- the range lies in the slot
abbrev pub InSlot : Place → ℕ → ℕ → Type 0
InSlot place at count = (gate_of place ≤ at) × (at + count ≤ gate_of place + slot_size)

pub other_kept : (place : Place) (at count : ℕ) (b c : List ℕ) → InSlot place at count → DifferIn at count b c → slot_in c (other place) ≡ slot_in b (other place)
other_kept First at count b c within differ = ap slot_of (piece_same at count b c differ 70000 slot_size (inr (omega (arith, within.1))))
other_kept Second at count b c within differ = ap slot_of (piece_same at count b c differ 0 slot_size (inl (omega (arith, within.0))))

-- at the gate alone
pub behind_kept : (place : Place) (b c : List ℕ) → DifferIn (gate_of place) 1 b c → behind_gate c place ≡ behind_gate b place
behind_kept place b c differ = piece_same (gate_of place) 1 b c differ (gate_of place + 1) body_size (inr (omega arith))

-- behind the gate alone
pub gate_kept : (place : Place) (count : ℕ) (b c : List ℕ) → DifferIn (gate_of place + 1) count b c → get_or c (gate_of place) 0 ≡ get_or b (gate_of place) 0
gate_kept place count b c differ = differ.rest (gate_of place) 0 (inl (omega arith))

-- ---- a gate

-- a slot's gate lies in it, and on the disk; so does what is behind it
pub gate_within : (place : Place) → InSlot place (gate_of place) 1
gate_within First = (omega arith, omega arith)
gate_within Second = (omega arith, omega arith)

pub gate_fits : (place : Place) (n : ℕ) → n ≡ 140000 → gate_of place + 1 ≤ n
gate_fits First n is = omega (arith, is)
gate_fits Second n is = omega (arith, is)

pub body_within : (place : Place) (n : ℕ) → n ≤ body_size → InSlot place (gate_of place + 1) n
body_within First n few = (omega arith, omega (arith, few))
body_within Second n few = (omega arith, omega (arith, few))

pub body_fits : (place : Place) (n : ℕ) → n ≡ 140000 → gate_of place + 1 + body_size ≤ n
body_fits First n is = omega (arith, is)
body_fits Second n is = omega (arith, is)

-- a byte that is written is there
pub byte_there : (b : List ℕ) (at byte : ℕ) → at + 1 ≤ length b → get_or (overlaid b at (byte ∷ [])) at 0 ≡ byte
byte_there b at byte fits = overlaid_within b at (byte ∷ []) fits at 0 (omega arith) (omega arith) ∙ ap (λ (k : ℕ). get_or (byte ∷ []) k 0) (nothing at)
  where
    nothing : (n : ℕ) → n - n ≡ 0
    nothing n = omega arith
