-- What is kept around deeds, one after the other, and rounds that are cut short.
use Rattle.std.proofs.Common.{◌≡◌, ℕ, List, [], ◌∷◌, ◌++◌, length, refl, ap, ◌∙◌, subst, Some, true}
use Rattle.std.specs.Prelude.{Option, slice_get}
use Rattle.grasp_core.specs.declared.node_core.NodeCore.{NodeCore}
use Rattle.grasp_crew.specs.Servants.{is_due}
use Rattle.grasp_crew.specs.declared.servant.Servant.{Servant}
use Rattle.grasp_disk.specs.Calls.{DiskLog}
use Rattle.grasp_service_visits.proofs.Going.{some_none}
use Rattle.grasp_service_visits.specs.Calling.{GoesSome}
use Rattle.grasp_shelf.proofs.Keeping.{kept_none}
use Rattle.grasp_shelf.specs.Shelves.{ShelfState, Asking, KeepsShelf, KeptOn}
use Rattle.grasp_store.specs.declared.fault.KeepFault.{KeepFault}
use Rattle.grasp_service.specs.Cuts.{FailsAsked, IsCutAsking, FailsAround, before_call, CutsAround}
use Rattle.grasp_service.specs.Deeds.{told_at}
use Rattle.grasp_service.specs.Keeping.{each_then, ahead_of}
use Rattle.grasp_service.specs.declared.cut.Cut.TheVariants as cut

-- ---- two lists side by side

module _ {A B C : Type 0} (f : A → B → C → C) where
  pub then_none : (xs : List A) (c : C) → each_then f xs [] c ≡ c
  then_none [] c = refl
  then_none (x ∷ xs) c = refl

  pub then_more : (xs : List A) (ys : List B) (x : A) (y : B) (c : C) → slice_get xs (length ys) ≡ Some x → each_then f xs (ys ++ y ∷ []) c ≡ f x y
      (each_then f xs ys c)
  then_more [] ys x y c at = absurd (cc)
  then_more (z ∷ xs) [] x y c at = let same : z ≡ x = cc in then_none xs (f z y c) ∙ ap (λ k. f k y c) same
  then_more (z ∷ xs) (w ∷ ys) x y c at = then_more xs ys x y (f z w c) at

-- ---- disks

module _ {B : Type 0} (stands : B → DiskLog → Type 0) (faults : B → ℕ) where
  -- the same is made of a disk
  pub kept_same : (a b : ShelfState B) (f g : DiskLog → DiskLog) → ((log : DiskLog) → f log ≡ g log) → KeptOn stands faults a f b → KeptOn stands faults a g b
  kept_same a b f g same p = record {
    keeps = λ log is. subst (λ x. KeepsShelf stands b x) (same log) (p.keeps log is);
    never_falls = p.never_falls;
    forgets = p.forgets;
    stopped = p.stopped;
  }

-- ---- cut short

module _ {B : Type 0} (stands : B → DiskLog → Type 0) (faults : B → ℕ) where
  -- memory was wanted
  pub cut_memory : (a b : NodeCore) (now : ℕ) (m : Servant) (s t : ShelfState B) → GoesSome a b → CutsAround stands faults a now m s cut.OutOfMemory b t
  cut_memory a b now m s t some = record { some = some; is = tt }

  -- the store has a fault before a call
  pub cut_before : (a : NodeCore) (now : ℕ) (m t : Servant) (s x : ShelfState B) (fault : KeepFault) → t ≡ told_at now m → is_due t ≡ true
      → FailsAsked stands faults s (ahead_of t) fault x → CutsAround stands faults a now (told_at now m) s (cut.Store fault) a x
  cut_before a now m t s x fault e due fails = record {
    some = some_none a;
    is = subst (λ k. (is_due k ≡ true) × FailsAround stands faults now k s fault x) e (due, before_call fails);
  }

  -- the store was asked, and has a fault
  pub cut_asked : (asked : Option Asking) (s t : ShelfState B) (fault : KeepFault) → FailsAsked stands faults s asked fault t
      → IsCutAsking stands faults s asked (cut.Store fault) t
  cut_asked asked s t fault fails = fails

pub ruleset asking = (kept_none)
