-- Reading one after another, as a loop does.
use Rattle.std.proofs.Common.{◌≡◌, ℕ, zero, suc, length, ◌-◌, ◌+◌, ◌≤◌, ◌<◌, List, [], ◌∷◌, ◌++◌, Some, None, refl, sym, ap, ◌∙◌, append_assoc, append-nil, arith}
use Rattle.grasp_cbor.specs.declared.heads.BuildError.{BuildError}
use Rattle.grasp_cbor.specs.declared.heads.BuildError.TheVariants.{NotItem, Memory}
use Rattle.grasp_cbor.specs.Build.{◌>>=◌, Found, Fails, with_front, many_with, break_at, or_end, until_break, open_with, alone}
use Rattle.grasp_cbor.proofs.Takes.{IsBytes}

module _ {X : Type 0} (one : List ℕ → Found X) where
  regroup : (front : List X) (x : X) (found : Found (List X)) → with_front front (found >>= λ xs. Some (x ∷ xs.0, xs.1)) ≡ with_front (front ++ x ∷ []) found
  regroup front x (Some xs) = ap (λ (ys : List X). Some (ys, xs.1)) (simp append_assoc)
  regroup front x None = refl

  pub begins : (found : Found (List X)) → with_front [] found ≡ found
  begins (Some xs) = refl
  begins None = refl

  pub goes_on : (front : List X) (count i : ℕ) (s : List ℕ) (x : X) (after : List ℕ) (total : Found (List X)) → i < count → one s ≡ Some (x, after)
      → with_front front (many_with one (count - i) s) ≡ total → with_front (front ++ x ∷ []) (many_with one (count - (i + 1)) after) ≡ total
  unfolding many_with
  goes_on front count i s x after total lt h so_far =
      let k : count - i ≡ suc (count - (i + 1)) = omega arith in
      let step : with_front front (many_with one (count - i) s) ≡ with_front (front ++ x ∷ []) (many_with one (count - (i + 1)) after) = rw (k, h) (regroup front x (many_with one (count - (i + 1)) after)) in
      sym step ∙ so_far

  pub ends : (e : BuildError) (front : List X) (count i : ℕ) (s : List ℕ) (total : Found (List X)) → i < count → Fails e (one s)
      → with_front front (many_with one (count - i) s) ≡ total → Fails e total
  unfolding many_with
  ends Memory front count i s total lt h so_far = tt
  ends NotItem front count i s total lt h so_far =
      let k : count - i ≡ suc (count - (i + 1)) = omega arith in
      let step : with_front front (many_with one (count - i) s) ≡ None = rw (k, h) refl in
      sym so_far ∙ step

  pub is_done : (front : List X) (count i : ℕ) (s : List ℕ) (total : Found (List X)) → count ≤ i → with_front front (many_with one (count - i) s) ≡ total → total ≡ Some (front, s)
  unfolding many_with
  is_done front count i s total le so_far =
      let k : count - i ≡ 0 = omega arith in
      let step : with_front front (many_with one (count - i) s) ≡ Some (front, s) = rw k (ap (λ (xs : List X). Some (xs, s)) (append-nil front)) in
      sym so_far ∙ step

-- what one reads takes a byte at least
abbrev pub Shrinks : {X : Type 0} → (List ℕ → Found X) → Type 0
Shrinks {X} one = (s : List ℕ) (x : X × List ℕ) → IsBytes s → one s ≡ Some x → IsBytes x.1 × (length x.1 < length s)

module _ {X : Type 0} (one : List ℕ → Found (List X)) (shrinks : Shrinks one) where
  abbrev more_by : ℕ → Found (List X) → Found (List X)
  more_by n r = r >>= λ x. until_break one n x.1 >>= λ xs. Some (x.0 ++ xs.0, xs.1)

  no_more : (n : ℕ) (s : List ℕ) (r : Found (List X)) → IsBytes s → length s ≡ 0 → one s ≡ r → more_by n r ≡ None
  no_more n s None fits l e = refl
  no_more n s (Some x) fits l e = absurd (let k = (shrinks s x fits e).1 in omega arith)

  nothing : (n : ℕ) (s : List ℕ) → IsBytes s → length s ≡ 0 → until_break one (suc n) s ≡ None
  unfolding until_break
  nothing n [] fits l = no_more n [] (one []) fits refl refl
  nothing n (b ∷ s) fits l = absurd (omega arith)

  more_same : (n m : ℕ) (s : List ℕ) (r : Found (List X)) → IsBytes s → length s ≤ n + 1 → length s ≤ m + 1
      → ((t : List ℕ) → IsBytes t → length t ≤ n → length t ≤ m → until_break one n t ≡ until_break one m t) → one s ≡ r → more_by n r ≡ more_by m r
  more_same n m s None fits l k f e = refl
  more_same n m s (Some x) fits l k f e =
      let t = shrinks s x fits e in
      let less = t.1 in
      ap (λ (q : Found (List X)). q >>= λ xs. Some (x.0 ++ xs.0, xs.1)) (f x.1 t.0 (omega arith) (omega arith))

  -- as many steps as bytes are enough
  same_steps : (n m : ℕ) (s : List ℕ) → IsBytes s → length s ≤ n → length s ≤ m → until_break one n s ≡ until_break one m s
  unfolding until_break
  same_steps zero zero s fits l k = refl
  same_steps zero (suc m) s fits l k = sym (nothing m s fits (omega arith))
  same_steps (suc n) zero s fits l k = nothing n s fits (omega arith)
  same_steps (suc n) (suc m) s fits l k = ap (or_end (break_at s)) (more_same n m s (one s) fits (omega arith) (omega arith) (same_steps n m) refl)

  regroup_open : (front more : List X) (found : Found (List X)) → with_front front (found >>= λ xs. Some (more ++ xs.0, xs.1)) ≡ with_front (front ++ more)
      found
  regroup_open front more (Some xs) = ap (λ (ys : List X). Some (ys, xs.1)) (sym (append_assoc front more xs.0))
  regroup_open front more None = refl

  pub open_goes_on : (front : List X) (s : List ℕ) (x : List X) (after : List ℕ) (total : Found (List X)) → IsBytes s → None ≡ break_at s
      → one s ≡ Some (x, after)
      → with_front front (open_with one s) ≡ total → with_front (front ++ x) (open_with one after) ≡ total
  unfolding until_break
  open_goes_on front [] x after total fits b h so_far = absurd (let k = (shrinks [] (x, after) fits h).1 in omega arith)
  open_goes_on front (c ∷ s) x after total fits b h so_far =
      let t = shrinks (c ∷ s) (x, after) fits h in
      let less = t.1 in
      let step : with_front front (until_break one (suc (length s)) (c ∷ s)) ≡ with_front (front ++ x) (until_break one (length s) after) = rw (← b, h)
      (regroup_open front x (until_break one (length s) after)) in
      ap (with_front (front ++ x)) (same_steps (length after) (length s) after t.0 (omega arith) (omega arith)) ∙ sym step ∙ so_far

  pub open_fails : (e : BuildError) (front : List X) (s : List ℕ) (total : Found (List X)) → None ≡ break_at s → Fails e (one s)
      → with_front front (open_with one s) ≡ total → Fails e total
  unfolding until_break
  open_fails Memory front s total b h so_far = tt
  open_fails NotItem front [] total b h so_far = sym so_far
  open_fails NotItem front (c ∷ s) total b h so_far = sym so_far ∙ rw (← b, h) refl

  pub open_ends : (front : List X) (s after : List ℕ) (total : Found (List X)) → Some after ≡ break_at s → with_front front (open_with one s) ≡ total
      → total ≡ Some (front, after)
  unfolding until_break
  open_ends front [] after total b so_far = absurd cc
  open_ends front (c ∷ s) after total b so_far = sym so_far ∙ rw (← b) (ap (λ (xs : List X). Some (xs, after)) (append-nil front))

pub before_all : {X : Type 0} (front : List X) (found : Found (List X)) → front ≡ [] → with_front front found ≡ found
before_all front (Some xs) e = ap (λ (ys : List _). Some (ys ++ xs.0, xs.1)) e
before_all front None e = refl

module _ {X : Type 0} (one : List ℕ → Found X) where
  pub alone_is : (s : List ℕ) (x : X) (after : List ℕ) → one s ≡ Some (x, after) → alone one s ≡ Some (x ∷ [], after)
  alone_is s x after e = rw e refl

  pub alone_fails : (e : BuildError) (s : List ℕ) → Fails e (one s) → Fails e (alone one s)
  alone_fails Memory s h = tt
  alone_fails NotItem s h = rw h refl
