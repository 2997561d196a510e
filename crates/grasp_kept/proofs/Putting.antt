-- The keepers of the nodes, of which one is put.
use Rattle.std.proofs.Common.{◌≡◌, inl, inr, refl, sym, ◌∙◌, ap, subst, arith, ℕ, zero, suc, ◌-◌, ◌<◌, List, [], ◌∷◌, length, slice_get, slice_index_or, slice_set, Some, length-set}
use Rattle.std.specs.List.{insert, remove}
use Rattle.grasp_laws_network.proofs.Appended.{get_numbered}
use Rattle.grasp_laws_network.proofs.Here.{numbered_within}
use Rattle.grasp_laws_network.proofs.Lists.{numbered_put}
use Rattle.grasp_model_network.specs.Plans.{IsNode}
use Rattle.grasp_model_network.specs.Setting.{Setting, numbered}
use Rattle.grasp_model_kept.specs.Disks.{roots_of}
use Rattle.grasp_model_kept.specs.World.{disk_of, with_disk}
use Rattle.grasp_laws_kept.proofs.Disks.{disk_other, disk_put}
use Rattle.grasp_kept.specs.Keepers.{DiskKeeper, KeepsDisk}
use Rattle.grasp_kept.specs.Stands.{KeepersStand}

-- a part that is taken out, and another that is put in its place
pub put_back : {A : Type 0} (xs : List A) (i : ℕ) (x : A) → i < length xs → insert (remove xs i) i x ≡ slice_set xs i x
put_back [] i x within = absurd (omega (arith, within))
put_back (y ∷ ys) zero x within = refl
put_back (y ∷ ys) (suc i) x within = ap (λ l. y ∷ l) (put_back ys i x (omega (arith, within)))

-- a part that is put is there, and another takes its place
pub put_there : {A : Type 0} (xs : List A) (i : ℕ) (x d : A) → i < length xs → slice_index_or (slice_set xs i x) i d ≡ x
put_there [] i x d within = absurd (omega (arith, within))
put_there (y ∷ ys) zero x d within = refl
put_there (y ∷ ys) (suc i) x d within = put_there ys i x d (omega (arith, within))

pub put_twice : {A : Type 0} (xs : List A) (i : ℕ) (x y : A) → slice_set (slice_set xs i x) i y ≡ slice_set xs i y
put_twice [] i x y = refl
put_twice (z ∷ zs) zero x y = refl
put_twice (z ∷ zs) (suc i) x y = ap (λ l. z ∷ l) (put_twice zs i x y)

module _ (s : Setting) (disks : List (List ℕ)) (keepers : List DiskKeeper) (stand : KeepersStand s disks keepers) (node : ℕ) (member : IsNode (length s.members) node) where
  pub within : node - 1 < length keepers
  within = omega (arith, stand.count, member.least, member.most)

  -- the keeper of a node keeps its disk
  pub keeper_here : (keeper : DiskKeeper) → slice_get keepers (node - 1) ≡ Some keeper → KeepsDisk (roots_of s node) keeper (disk_of disks node)
  keeper_here keeper got = stand.each node keeper (get_numbered keepers node (Some keeper) member.least got)

  -- another keeper with another content in its place
  module _ (count : length disks ≡ length s.members) (keeper : DiskKeeper) (bytes : List ℕ) (keeps : KeepsDisk (roots_of s node) keeper bytes) where
    pub put_keeper : KeepersStand s (with_disk disks node bytes) (slice_set keepers (node - 1) keeper)
    put_keeper = record { count = length-set keepers (node - 1) keeper ∙ stand.count; each = each } where
      in_disks : (n : ℕ) → IsNode (length s.members) n → IsNode (length disks) n
      in_disks n is = subst (λ (c : ℕ). IsNode c n) (sym count) is

      at_own : (n : ℕ) (k : DiskKeeper) → n ≡ node → keeper ≡ k → KeepsDisk (roots_of s n) k (disk_of (with_disk disks node bytes) n)
      at_own n k same is =
          subst (λ (m : ℕ). KeepsDisk (roots_of s m) k (disk_of (with_disk disks node bytes) m)) (sym same)
          (subst (λ (b : List ℕ). KeepsDisk (roots_of s node) k b) (sym (disk_put disks node bytes (in_disks node member))) (subst (λ (j : DiskKeeper). KeepsDisk (roots_of s node) j bytes) is keeps))

      each : (n : ℕ) (k : DiskKeeper) → numbered (slice_set keepers (node - 1) keeper) n ≡ Some k → KeepsDisk (roots_of s n) k (disk_of (with_disk disks node bytes) n)
      each n k found = elim (numbered_put keepers node n keeper k member.least found) [
        | inl h ↦ at_own n k h.0 h.1
        | inr h ↦ subst (λ (b : List ℕ). KeepsDisk (roots_of s n) k b)
            (sym (disk_other disks node bytes n (in_disks n (subst (λ (c : ℕ). IsNode c n) stand.count (numbered_within keepers n k h.1))) member.least h.0)) (stand.each n k h.1)
      ]
