-- A save: whatever a crash leaves at any moment of it, the image is current that was so, or the new one.
use Rattle.std.proofs.Common.{◌≡◌, inl, inr, ℕ, ◌+◌, ◌-◌, ◌*◌, ◌<◌, ◌≤◌, ◌^◌, Bool, true, false, List, [], ◌∷◌, length, Option, None, Some, refl, sym, ◌∙◌, ap, subst, arith, length-append}
use Rattle.std.specs.Prelude.{is_some}
use Rattle.std.proofs.lemmas.List.Elements.{recursion_from_All}
use Rattle.std.proofs.lemmas.Option.{none-some, same_Some}
use Rattle.grasp_disk.specs.Calls.{DiskCall, DiskState, after_calls}
use Rattle.grasp_disk.specs.Crashes.{AtEachMoment, IsSettled, DifferIn}
use Rattle.grasp_disk.specs.Memory.{AllFit, AllSucceed}
use Rattle.grasp_disk.proofs.Leaving.{settled_leaves}
use Rattle.grasp_disk.proofs.Moments.{moments_imply, moments_join}
use Rattle.grasp_types.specs.Prefix.{AddressBlock as Prefix}
use Rattle.grasp_pool.specs.Listings.{all_of}
use Rattle.grasp_pool.specs.Spans.{IsValid}
use Rattle.grasp_pool.specs.declared.image.PoolImage.{PoolImage}
use Rattle.grasp_store.specs.Current.{IsNewest, IsCurrent, IsSound, current_in, current_place, number_of}
use Rattle.grasp_store.specs.Images.{IsGoodImage}
use Rattle.grasp_store.specs.Saving.{IsOldOrNew, closing_calls, filling_calls, next_place, next_saved, put_calls, save_calls, store_calls}
use Rattle.grasp_store.specs.Slots.{Saved, Fits, all_prefix_bytes, body_of, body_size, gate_of, other, slot_in}
use Rattle.grasp_store.specs.declared.place.Place.{Place}
use Rattle.grasp_store.specs.declared.place.Place.TheVariants.{First, Second}
use Rattle.grasp_store.proofs.Codec.{length-all_prefix_bytes}
use Rattle.grasp_store.proofs.Crashes.{StaysOrCloses, ClosedOrHolds, IsCleared, IsReady, closing_keeps, filling_keeps, fits_body, fits_gate, filled, gate_closed, holds_opened, kept_opened, new_current, opened, opens, ready, size_filled, size_opened, stays_closed, stays_or_closes}
use Rattle.grasp_store.proofs.Newest.{current_is, newest_in, newest_place, stays_open}
use Rattle.grasp_store.proofs.Puts.{put_moments}
use Rattle.grasp_store.proofs.SlotParts.{body_fits, gate_fits}

-- ---- what fits its bytes

small_prefix : (p : Prefix) → IsValid p → (p.length < 2 ^ 8) × (p.address < 2 ^ 128)
small_prefix p valid = (omega (arith, valid.most), valid.within)

-- the image of a pool fits behind a gate, with any number of 8 bytes
pub good_fits : (n : ℕ) (image : PoolImage) → IsGoodImage image → n < 2 ^ 64 → Fits (record { number = n; image = image })
good_fits n image good below = record {
  number = below;
  free = omega (arith, good.few);
  doubtful = omega (arith, good.few);
  prefixes = recursion_from_All (λ p. (p.length < 2 ^ 8) × (p.address < 2 ^ 128)) (all_of image) (λ k d lt. small_prefix _ (good.disjoint.valid k d lt lt));
}

pub length-body : (x : Saved) → length (body_of x) ≡ 12 + 17 * (length x.image.free + length x.image.doubtful)
unfolding body_of
length-body x =
    omega (arith, length-append (all_prefix_bytes x.image.free) (all_prefix_bytes x.image.doubtful), length-all_prefix_bytes x.image.free, length-all_prefix_bytes x.image.doubtful)

pub body_short : (n : ℕ) (image : PoolImage) → length image.free + length image.doubtful ≤ 4096 → length (body_of (record { number = n; image = image })) ≤ body_size
body_short n image few = omega (arith, few, length-body (record { number = n; image = image }))

-- ---- calls

store_succeeds : (place : Place) (t : Bool) (body : List ℕ) → AllSucceed (store_calls place t body)
store_succeeds place false body = (refl, (refl, (refl, (refl, tt))))
store_succeeds place true body = (refl, (refl, (refl, (refl, (refl, (refl, tt))))))

-- the calls of a save are calls that succeed
pub save_succeeds : (bytes : List ℕ) (image : PoolImage) → AllSucceed (save_calls bytes image)
unfolding save_calls
save_succeeds bytes image = store_succeeds (next_place (current_place bytes)) (is_some (slot_in bytes (next_place (current_place bytes)))) (body_of (next_saved bytes image))

-- ---- contents

-- each open slot holds an image that a pool can have
abbrev AreGood : List ℕ → Type 0
AreGood c = (q : Place) (y : Saved) → slot_in c q ≡ Some y → IsGoodImage y.image

abbrev IsGoodAt : List ℕ → Place → Type 0
IsGoodAt c q = (y : Saved) → slot_in c q ≡ Some y → IsGoodImage y.image

both_good : (place : Place) (c : List ℕ) → IsGoodAt c place → IsGoodAt c (other place) → AreGood c
both_good First c here there First = here
both_good First c here there Second = there
both_good Second c here there First = there
both_good Second c here there Second = here

none_good : (c : List ℕ) (q : Place) → slot_in c q ≡ None → IsGoodAt c q
none_good c q none y is = absurd (none-some y (sym none ∙ is))

same_good : (b c : List ℕ) (p q : Place) → IsGoodAt b p → slot_in c q ≡ slot_in b p → IsGoodAt c q
same_good b c p q good same y is = good y (sym same ∙ is)

-- a disk on which this is current can be opened
current_sound : (c : List ℕ) (o : Option Saved) → length c ≡ 140000 → AreGood c → IsCurrent c o → IsSound c
current_sound c o size good current = record { size = size; good = good; one = subst (λ (p : Option Saved). IsCurrent c p) (sym (current_is c o current)) current }

module _ (s : DiskState) (settled : IsSettled s) (sound : IsSound s.bytes) (image : PoolImage) (good : IsGoodImage image) (below : number_of (current_in s.bytes) < 2 ^ 64 - 1) where
  abbrev b : List ℕ
  b = s.bytes

  abbrev pub place : Place
  place = next_place (current_place s.bytes)

  abbrev pub x : Saved
  x = next_saved s.bytes image

  abbrev Q : List ℕ → Type 0
  Q = IsOldOrNew s.bytes image

  is_ready : IsReady b place (number_of (current_in b))
  is_ready = ready b sound.one

  fits_x : Fits x
  fits_x = good_fits (number_of (current_in b) + 1) image good (omega (arith, below))

  short : length (body_of x) ≤ body_size
  short = body_short (number_of (current_in b) + 1) image good.few

  x_good : (c : List ℕ) (q : Place) → slot_in c q ≡ Some x → IsGoodAt c q
  x_good c q is y has = subst (λ (z : Saved). IsGoodImage z.image) (same_Some x y (sym is ∙ has)) good

  -- ---- the slot is closed

  stays_holds : (c : List ℕ) → length c ≡ 140000 → StaysOrCloses place b c → Q c
  stays_holds c size stays = record {
    sound = current_sound c (current_in b) size (both_good place c here (same_good b c (other place) (other place) (sound.good (other place)) stays.kept)) still;
    current = inl (current_is c (current_in b) still);
  }
    where
      still : IsCurrent c (current_in b)
      still = closing_keeps b place (number_of (current_in b)) is_ready sound.one c stays

      here : IsGoodAt c place
      here = elim stays.this [ inl closed ↦ none_good c place closed | inr same ↦ same_good b c place place (sound.good place) same ]

  record IsClosing (t : Bool) : Type 0 where
    moments : AtEachMoment s (closing_calls place t) Q
    settled_then : IsSettled (after_calls (closing_calls place t) s)
    cleared : IsCleared place b (after_calls (closing_calls place t) s).bytes

  fits_here : gate_of place + 1 ≤ length b
  fits_here = gate_fits place (length b) sound.size

  none_at : (o : Option Saved) → is_some o ≡ false → o ≡ None
  none_at None is = refl
  none_at (Some y) is = search Rattle.std.proofs.Common.rules

  some_at : (o : Option Saved) → is_some o ≡ true → (y : Saved) × (o ≡ Some y)
  some_at None is = search Rattle.std.proofs.Common.rules
  some_at (Some y) is = (y, refl)

  closing : (t : Bool) → is_some (slot_in b place) ≡ t → IsClosing t
  unfolding AtEachMoment
  closing false is = record {
    moments = λ c may. same_holds c (settled_leaves s settled c may);
    settled_then = settled;
    cleared = record { size = sound.size; kept = refl; closed = none_at (slot_in b place) is };
  }
    where
      same_holds : (c : List ℕ) → c ≡ b → Q c
      same_holds c same =
          stays_holds c (ap length same ∙ sound.size) (record { kept = ap (λ (l : List ℕ). slot_in l (other place)) same; this = inr (ap (λ (l : List ℕ). slot_in l place) same) })
  closing true is =
      let there : (y : Saved) × (slot_in b place ≡ Some y) = some_at (slot_in b place) is
      in record {
        moments = moments_imply s (put_calls (gate_of place) (0 ∷ [])) (DifferIn (gate_of place) 1 b) Q
            (λ c differ. stays_holds c (differ.size ∙ sound.size) (stays_or_closes place b there.0 there.1 c differ)) (put_moments s settled (gate_of place) (0 ∷ []) fits_here);
        settled_then = refl;
        cleared = gate_closed place b sound.size;
      }

  abbrev closed_calls : List DiskCall
  closed_calls = closing_calls place (is_some (slot_in s.bytes place))

  abbrev s1 : DiskState
  s1 = after_calls closed_calls s

  closes : IsClosing (is_some (slot_in b place))
  closes = closing (is_some (slot_in b place)) refl

  -- ---- it is filled

  fills_holds : (c : List ℕ) → length c ≡ 140000 → ClosedOrHolds place x s1.bytes c → Q c
  fills_holds c size fills =
      elim (filling_keeps b place (number_of (current_in b)) is_ready x refl sound.one c (fills.kept ∙ closes.cleared.kept) fills.this) [
        | inl current ↦ record { sound = current_sound c (current_in b) size all_good current; current = inl (current_is c (current_in b) current) }
        | inr current ↦ record { sound = current_sound c (Some x) size all_good current; current = inr (current_is c (Some x) current) }
      ]
    where
      here : IsGoodAt c place
      here = elim fills.this [ inl closed ↦ none_good c place closed | inr is ↦ x_good c place is ]

      all_good : AreGood c
      all_good = both_good place c here (same_good b c (other place) (other place) (sound.good (other place)) (fills.kept ∙ closes.cleared.kept))

  filling : AtEachMoment s1 (filling_calls place (body_of x)) Q
  filling =
      moments_join s1 (put_calls (gate_of place) (1 ∷ [])) (put_calls (gate_of place + 1) (body_of x)) Q
      (moments_imply s1 (put_calls (gate_of place + 1) (body_of x)) (DifferIn (gate_of place + 1) (length (body_of x)) s1.bytes) Q
      (λ c differ. fills_holds c (differ.size ∙ closes.cleared.size) (stays_closed place s1.bytes closes.cleared.size closes.cleared.closed x fits_x short c differ))
      (put_moments s1 closes.settled_then (gate_of place + 1) (body_of x) (fits_body place s1.bytes closes.cleared.size closes.cleared.closed x fits_x short)))
      (moments_imply (after_calls (put_calls (gate_of place + 1) (body_of x)) s1) (put_calls (gate_of place) (1 ∷ [])) (DifferIn (gate_of place) 1 (filled place s1.bytes closes.cleared.size closes.cleared.closed x fits_x short)) Q
      (λ c differ. fills_holds c (differ.size ∙ size_filled place s1.bytes closes.cleared.size closes.cleared.closed x fits_x short) (opens place s1.bytes closes.cleared.size closes.cleared.closed x fits_x short c differ))
      (put_moments (after_calls (put_calls (gate_of place + 1) (body_of x)) s1) refl (gate_of place) (1 ∷ []) (fits_gate place s1.bytes closes.cleared.size closes.cleared.closed x fits_x short)))

  -- ---- all of it

  -- a crash at any moment of a save leaves what was current, or what the save puts there
  pub save_moments : AtEachMoment s (save_calls s.bytes image) (IsOldOrNew s.bytes image)
  unfolding save_calls
  save_moments = moments_join s (filling_calls place (body_of x)) closed_calls Q closes.moments filling

  fit_of : (t : Bool) → AllFit (length b) (store_calls place t (body_of x))
  fit_of false = (fits_here, (behind, tt))
    where
      behind : gate_of place + 1 + length (body_of x) ≤ length b
      behind = omega (arith, short, body_fits place (length b) sound.size)
  fit_of true = (fits_here, (behind, (fits_here, tt)))
    where
      behind : gate_of place + 1 + length (body_of x) ≤ length b
      behind = omega (arith, short, body_fits place (length b) sound.size)

  pub save_fits : AllFit (length s.bytes) (save_calls s.bytes image)
  unfolding save_calls
  save_fits = fit_of (is_some (slot_in b place))

  -- what a disk is behind a save
  pub record IsSaved (t : DiskState) : Type 0 where
    pub settled_then : IsSettled t
    pub sound_then : IsSound t.bytes
    pub place_is : current_place t.bytes ≡ Some (next_place (current_place s.bytes))
    pub saved_is : current_in t.bytes ≡ Some (next_saved s.bytes image)
    pub behind : is_some (slot_in t.bytes (other (next_place (current_place s.bytes)))) ≡ is_some (current_place s.bytes)

  abbrev then : List ℕ
  then = opened place s1.bytes closes.cleared.size closes.cleared.closed x fits_x short

  kept_then : slot_in then (other place) ≡ slot_in b (other place)
  kept_then = kept_opened place s1.bytes closes.cleared.size closes.cleared.closed x fits_x short ∙ closes.cleared.kept

  x_there : slot_in then place ≡ Some x
  x_there = holds_opened place s1.bytes closes.cleared.size closes.cleared.closed x fits_x short

  newest : IsNewest then place x
  newest = new_current b place (number_of (current_in b)) is_ready x refl then kept_then x_there

  pub saved_then : IsSaved (after_calls (save_calls s.bytes image) s)
  unfolding save_calls
  saved_then = record {
    settled_then = refl;
    sound_then = current_sound then (Some x) (size_opened place s1.bytes closes.cleared.size closes.cleared.closed x fits_x short)
        (both_good place then (x_good then place x_there) (same_good b then (other place) (other place) (sound.good (other place)) kept_then)) (place, newest);
    place_is = newest_place then place x newest;
    saved_is = newest_in then place x newest;
    behind = ap is_some kept_then ∙ stays_open b sound.one;
  }
