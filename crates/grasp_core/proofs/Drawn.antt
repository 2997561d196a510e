-- The first number that isn't used.
use Rattle.std.proofs.Common.{◌≡◌, ℕ, zero, suc, ◌+◌, ◌%◌, ◌^◌, ◌<◌, ◌≤◌, Bool, true, false, refl, sym, ap, ◌∙◌, add-one, arith}
use Rattle.grasp_model_node.specs.Draws.{first_unused}

pub unused_none : (used : ℕ → Bool) (left n : ℕ) → left ≤ 0 → first_unused used left n ≡ n
unfolding first_unused
unused_none used zero n p = refl
unused_none used (suc k) n p = absurd (omega arith)

pub unused_here : (used : ℕ → Bool) (left n : ℕ) → 0 < left → used n ≡ false → first_unused used left n ≡ n
unfolding first_unused
unused_here used zero n p e = absurd (omega arith)
unused_here used (suc k) n p e = rw e refl

unused_suc : (used : ℕ → Bool) (k n : ℕ) → used n ≡ true → first_unused used (suc k) n ≡ first_unused used k ((n + 1) % 2 ^ 32)
unfolding first_unused
unused_suc used k n e = rw e refl

pub unused_on : (used : ℕ → Bool) (left next n : ℕ) → next + 1 ≡ left → used n ≡ true → first_unused used left n ≡ first_unused used next ((n + 1) % 2 ^ 32)
unused_on used left next n q e = let s : left ≡ suc next = sym q ∙ add-one next in ap (λ (m : ℕ). first_unused used m n) s ∙ unused_suc used next n e
