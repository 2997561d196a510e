-- What a keeper remembers, before a save and behind it.
use Rattle.std.proofs.Common.{◌≡◌, ℕ, ◌+◌, ◌-◌, ◌<◌, ◌^◌, Bool, false, List, Option, Some, sym, ◌∙◌, ap, subst}
use Rattle.std.specs.Prelude.{is_some}
use Rattle.grasp_disk.specs.Calls.{DiskCall, DiskLog, DiskState, after_made, bytes_of, state_of}
use Rattle.grasp_disk.proofs.Moments.{state_made}
use Rattle.grasp_pool.specs.declared.image.PoolImage.{PoolImage}
use Rattle.grasp_pool.specs.declared.roots.RootPrefix.{RootPrefix}
use Rattle.grasp_store.specs.Asking.{BreaksIn}
use Rattle.grasp_store.specs.Current.{current_in, current_place, image_or, number_of}
use Rattle.grasp_store.specs.Images.{IsGoodImage}
use Rattle.grasp_store.specs.Keeping.{KeeperState, Remembers, Keeps, Saves}
use Rattle.grasp_store.specs.Saving.{FailsIn, IsOldOrNew, next_place, save_calls, store_calls}
use Rattle.grasp_store.specs.Slots.{body_of, slot_in}
use Rattle.grasp_store.specs.declared.place.Place.{Place}
use Rattle.grasp_store.proofs.Cutting.{breaking_fails}
use Rattle.grasp_store.proofs.Saves.{IsSaved, save_fits, save_moments, saved_then}

-- the keeper behind a save of this image
pub record IsSavedBy {D : Type 0} (old : KeeperState D) (image : PoolImage) (new : KeeperState D) : Type 0 where
  pub current : new.current ≡ Some (next_place old.current)
  pub behind : new.behind ≡ is_some old.current
  pub number : new.number ≡ old.number + 1
  pub image_is : new.image ≡ image
  pub going : new.faulty ≡ false

-- the calls of a save by what a keeper remembers
abbrev pub calls_by : {D : Type 0} → KeeperState D → PoolImage → List DiskCall
calls_by keeper image = store_calls (next_place keeper.current) keeper.behind (body_of (record { number = keeper.number + 1; image = image }))

module _ {D : Type 0} (Stands : D → DiskLog → Type 0) (roots : List RootPrefix) (old : KeeperState D) (log : DiskLog) (keeps : Keeps Stands roots old log) (image : PoolImage) (good : IsGoodImage image) (below : old.number < 2 ^ 64 - 1) where
  abbrev bytes : List ℕ
  bytes = bytes_of log

  below_here : number_of (current_in bytes) < 2 ^ 64 - 1
  below_here = subst (λ (n : ℕ). n < 2 ^ 64 - 1) keeps.remembers.number below

  abbrev calls_of : Option Place → Bool → ℕ → List DiskCall
  calls_of current behind number = store_calls (next_place current) behind (body_of (record { number = number + 1; image = image }))

  -- which are those of a save
  calls_are : calls_by old image ≡ save_calls (bytes_of log) image
  unfolding save_calls
  calls_are =
      ap (λ (o : Option Place). calls_of o old.behind old.number) keeps.remembers.current
      ∙ ap (λ (t : Bool). calls_of (current_place bytes) t old.number) keeps.remembers.behind
      ∙ ap (λ (n : ℕ). calls_of (current_place bytes) (is_some (slot_in bytes (next_place (current_place bytes)))) n) keeps.remembers.number

  abbrev s : DiskState
  s = state_of log

  saved_here : IsSaved s keeps.settled keeps.sound image good below_here (state_of (after_made log (save_calls bytes image)))
  saved_here = subst (λ (t : DiskState). IsSaved s keeps.settled keeps.sound image good below_here t) (sym (state_made log (save_calls bytes image))) (saved_then s keeps.settled keeps.sound image good below_here)

  remembers_then : (new : KeeperState D) → IsSavedBy old image new → Remembers roots new (bytes_of (after_made log (save_calls bytes image)))
  remembers_then new after = record {
    current = after.current ∙ ap (λ (o : Option Place). Some (next_place o)) keeps.remembers.current ∙ sym saved_here.place_is;
    behind =
        after.behind ∙ ap is_some keeps.remembers.current ∙ sym saved_here.behind
        ∙ sym (ap (λ (o : Option Place). is_some (slot_in (bytes_of (after_made log (save_calls bytes image))) (next_place o))) saved_here.place_is);
    number = after.number ∙ ap (λ (n : ℕ). n + 1) keeps.remembers.number ∙ sym (ap number_of saved_here.saved_is);
    image = after.image_is ∙ sym (ap (image_or roots) saved_here.saved_is);
  }

  pub keeper_saves : (new : KeeperState D) → IsSavedBy old image new → Stands new.disk (after_made log (calls_by old image)) → Saves Stands roots new log (save_calls (bytes_of log) image) image
  keeper_saves new after stands = record {
    keeps = record {
      going = after.going;
      stands = subst (λ (calls : List DiskCall). Stands new.disk (after_made log calls)) calls_are stands;
      settled = saved_here.settled_then;
      sound = saved_here.sound_then;
      remembers = remembers_then new after;
    };
    has = ap (image_or roots) saved_here.saved_is;
    moments = save_moments s keeps.settled keeps.sound image good below_here;
  }

  pub keeper_fails : (Then : DiskLog → Type 0) → BreaksIn Then log (calls_by old image) → FailsIn Then log (save_calls (bytes_of log) image) (IsOldOrNew (bytes_of log) image)
  keeper_fails Then breaks =
      breaking_fails Then log (save_calls bytes image) (IsOldOrNew bytes image) (save_fits s keeps.settled keeps.sound image good below_here)
      (save_moments s keeps.settled keeps.sound image good below_here) (subst (λ (calls : List DiskCall). BreaksIn Then log calls) calls_are breaks)
