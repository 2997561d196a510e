-- The calls of a disk that the code makes, one part behind the other.
use Rattle.std.proofs.Common.{◌≡◌, ℕ, ◌+◌, Bool, true, false, List, [], ◌∷◌, length, refl, subst}
use Rattle.grasp_disk.specs.Calls.{DiskLog, Spoils, read, wrote, synced, after_made, more}
use Rattle.grasp_store.specs.Asking.{BreaksIn}
use Rattle.grasp_store.specs.Saving.{closing_calls, filling_calls, open_calls, put_calls, store_calls}
use Rattle.grasp_store.specs.Slots.{gate_of}
use Rattle.grasp_store.specs.declared.place.Place.{Place}
use Rattle.grasp_store.proofs.Cutting.{breaks_first, breaks_last, breaks_later}

-- ---- a put

pub write_fails : (Then : DiskLog → Type 0) (log : DiskLog) (at : ℕ) (new : List ℕ) → Spoils Then log at (length new) → BreaksIn Then log (put_calls at new)
write_fails Then log at new spoils =
    breaks_first Then log (synced true ∷ []) (wrote at new true ∷ []) (breaks_last Then log (wrote at new true) (wrote at spoils.bytes false) [] (spoils.bytes, spoils.as_many, refl) spoils.stands)

pub sync_fails : (Then : DiskLog → Type 0) (log : DiskLog) (at : ℕ) (new : List ℕ) → Then (more (more log (wrote at new true)) (synced false)) → BreaksIn Then log (put_calls at new)
sync_fails Then log at new stands = breaks_last Then log (synced true) (synced false) (wrote at new true ∷ []) refl stands

-- ---- a slot that is filled

module _ (Old Mid New : DiskLog → Type 0) (place : Place) (body : List ℕ) where
  abbrev pub BreaksAt : (DiskLog → Type 0) → (DiskLog → Type 0) → ℕ → List ℕ → Type 0
  BreaksAt From Then at new = (log : DiskLog) → From log → BreaksIn Then log (put_calls at new)

  abbrev pub PutsAt : ℕ → List ℕ → Type 0
  PutsAt at new = (log : DiskLog) → Old log → Mid (after_made log (put_calls at new))

  pub filling_fails : (at : ℕ) → at ≡ gate_of place → BreaksAt Old Mid (at + 1) body → (log : DiskLog) → Old log → BreaksIn Mid log (filling_calls place body)
  filling_fails at is fails log stands =
      breaks_first Mid log (put_calls (gate_of place) (1 ∷ [])) (put_calls (gate_of place + 1) body) (subst (λ (n : ℕ). BreaksIn Mid log (put_calls (n + 1) body)) is (fails log stands))

  pub opening_fails : (at at' : ℕ) → at ≡ gate_of place → at' ≡ gate_of place → PutsAt (at + 1) body → BreaksAt Mid New at' (1 ∷ []) → (log : DiskLog) → Old log
      → BreaksIn New log (filling_calls place body)
  opening_fails at at' is is' puts fails log stands =
      breaks_later New log (put_calls (gate_of place) (1 ∷ [])) (put_calls (gate_of place + 1) body)
      (subst (λ (n : ℕ). BreaksIn New (after_made log (put_calls (gate_of place + 1) body)) (put_calls n (1 ∷ []))) is'
      (fails (after_made log (put_calls (gate_of place + 1) body)) (subst (λ (n : ℕ). Mid (after_made log (put_calls (n + 1) body))) is (puts log stands))))

  -- ---- a slot that is closed, where it is open, and filled

  pub clearing_fails : (is_open : Bool) → ((log : DiskLog) → Old log → BreaksIn Mid log (closing_calls place is_open)) → (log : DiskLog) → Old log → BreaksIn Mid log (store_calls place is_open body)
  clearing_fails is_open fails log stands = breaks_first Mid log (filling_calls place body) (closing_calls place is_open) (fails log stands)

  pub storing_fails : (is_open : Bool) → ((log : DiskLog) → Old log → Mid (after_made log (closing_calls place is_open))) → ((log : DiskLog) → Mid log → BreaksIn New log (filling_calls place body))
      → (log : DiskLog) → Old log → BreaksIn New log (store_calls place is_open body)
  storing_fails is_open clears fails log stands =
      breaks_later New log (filling_calls place body) (closing_calls place is_open) (fails (after_made log (closing_calls place is_open)) (clears log stands))

-- ---- an opening

module _ (Then : DiskLog → Type 0) (log : DiskLog) where
  pub first_sync_fails : Then (more log (synced false)) → BreaksIn Then log open_calls
  first_sync_fails stands = breaks_first Then log (read true ∷ read true ∷ []) (synced true ∷ []) (breaks_last Then log (synced true) (synced false) [] refl stands)

  pub first_read_fails : Then (more (more log (synced true)) (read false)) → BreaksIn Then log open_calls
  first_read_fails stands = breaks_first Then log (read true ∷ []) (read true ∷ synced true ∷ []) (breaks_last Then log (read true) (read false) (synced true ∷ []) refl stands)

  pub second_read_fails : Then (more (more (more log (synced true)) (read true)) (read false)) → BreaksIn Then log open_calls
  second_read_fails stands = breaks_last Then log (read true) (read false) (read true ∷ synced true ∷ []) refl stands
