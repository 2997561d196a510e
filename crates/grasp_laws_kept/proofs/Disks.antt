-- The disk of a member is put, and those of others stay.
use Rattle.std.proofs.Common.{◌≡◌, ◌≢◌, inl, inr, ℕ, ◌-◌, ◌≤◌, List, [], length, Option, Some, refl, sym, ◌∙◌, ap, subst, length-set}
use Rattle.std.specs.Prelude.{unwrap_or}
use Rattle.grasp_laws_network.proofs.Lists.{numbered_put, numbered_there}
use Rattle.grasp_model_network.specs.Plans.{IsNode}
use Rattle.grasp_model_network.specs.Setting.{numbered}
use Rattle.grasp_model_kept.specs.World.{disk_of, with_disk}

pub length-with : (disks : List (List ℕ)) (node : ℕ) (bytes : List ℕ) → length (with_disk disks node bytes) ≡ length disks
length-with disks node bytes = length-set disks (node - 1) bytes

module _ (disks : List (List ℕ)) (node : ℕ) (bytes : List ℕ) where
  there : (n : ℕ) → IsNode (length disks) n → (y : List ℕ) × (numbered (with_disk disks node bytes) n ≡ Some y)
  there n is = numbered_there (with_disk disks node bytes) n (subst (λ (k : ℕ). IsNode k n) (sym (length-with disks node bytes)) is)

  pub disk_put : IsNode (length disks) node → disk_of (with_disk disks node bytes) node ≡ bytes
  disk_put is = by_part (there node is) where
    by_part : (y : List ℕ) × (numbered (with_disk disks node bytes) node ≡ Some y) → disk_of (with_disk disks node bytes) node ≡ bytes
    by_part f = elim (numbered_put disks node node bytes f.0 is.least f.1) [
      | inl h ↦ ap (λ (o : Option (List ℕ)). unwrap_or o []) f.1 ∙ sym h.1
      | inr h ↦ absurd (h.0 refl)
    ]

  pub disk_other : (n : ℕ) → IsNode (length disks) n → 1 ≤ node → n ≢ node → disk_of (with_disk disks node bytes) n ≡ disk_of disks n
  disk_other n is least apart = by_part (there n is) where
    by_part : (y : List ℕ) × (numbered (with_disk disks node bytes) n ≡ Some y) → disk_of (with_disk disks node bytes) n ≡ disk_of disks n
    by_part f = elim (numbered_put disks node n bytes f.0 least f.1) [
      | inl h ↦ absurd (apart h.0)
      | inr h ↦ ap (λ (o : Option (List ℕ)). unwrap_or o []) f.1 ∙ sym (ap (λ (o : Option (List ℕ)). unwrap_or o []) h.1)
    ]
