-- The entries of an agent of prefixes once one comes, changes or goes.
use Rattle.std.proofs.Common.{◌≡◌, ◌≢◌, ◌<◌, ◌+◌, ℕ, zero, suc, List, [], ◌∷◌, ◌++◌, length, drop, take, slice_get, slice_set, Some, refl, sym, ap, subst, arith}
use Rattle.grasp_agent.specs.Replies.{removed}
use Rattle.grasp_agent.specs.declared.giving.Giving.{Giving}

-- ---- one by its place

pub some_at : {X : Type 0} (xs : List X) (i : ℕ) → i < length xs → (x : X) × (slice_get xs i ≡ Some x)
some_at [] i within = absurd (omega (arith, within))
some_at (x ∷ xs) zero within = (x, refl)
some_at (x ∷ xs) (suc i) within = some_at xs i (omega (arith, within))

-- ---- one more

pub still_at : {X : Type 0} (xs ys : List X) (i : ℕ) (x : X) → slice_get xs i ≡ Some x → slice_get (xs ++ ys) i ≡ Some x
still_at [] ys i x e = absurd (cc)
still_at (z ∷ xs) ys zero x e = e
still_at (z ∷ xs) ys (suc i) x e = still_at xs ys i x e

pub last_at : {X : Type 0} (xs : List X) (x : X) → slice_get (xs ++ x ∷ []) (length xs) ≡ Some x
last_at [] x = refl
last_at (z ∷ xs) x = last_at xs x

-- ---- one is another now

pub set_same : {X : Type 0} (xs : List X) (i : ℕ) (x y : X) → slice_get xs i ≡ Some x → slice_get (slice_set xs i y) i ≡ Some y
set_same [] i x y e = absurd (cc)
set_same (z ∷ xs) zero x y e = refl
set_same (z ∷ xs) (suc i) x y e = set_same xs i x y e

pub set_elsewhere : {X : Type 0} (xs : List X) (i j : ℕ) (x y : X) → j ≢ i → slice_get xs j ≡ Some x → slice_get (slice_set xs i y) j ≡ Some x
set_elsewhere [] i j x y differ e = absurd (cc)
set_elsewhere (z ∷ xs) zero zero x y differ e = absurd (differ refl)
set_elsewhere (z ∷ xs) zero (suc j) x y differ e = e
set_elsewhere (z ∷ xs) (suc i) zero x y differ e = e
set_elsewhere (z ∷ xs) (suc i) (suc j) x y differ e = set_elsewhere xs i j x y (λ f. differ (ap suc f)) e

-- ---- one goes

-- an entry is there
abbrev pub IsThere : List Giving → Giving → Type 0
IsThere xs g = (i : ℕ) × (slice_get xs i ≡ Some g)

behind : (x g : Giving) (xs : List Giving) → IsThere xs g → IsThere (x ∷ xs) g
behind x g xs t = (suc t.0, t.1)

removed_rest : (x : Giving) (xs : List Giving) (place : ℕ) → removed (x ∷ xs) (suc place) ≡ x ∷ removed xs place
removed_rest x xs place =
    let next : suc place + 1 ≡ suc (place + 1) = omega arith in
    ap (λ k. x ∷ take place xs ++ drop k (x ∷ xs)) next

pub stays_there : (xs : List Giving) (place i : ℕ) (g : Giving) → i ≢ place → slice_get xs i ≡ Some g → IsThere (removed xs place) g
stays_there [] place i g differ e = absurd (cc)
stays_there (x ∷ xs) zero zero g differ e = absurd (differ refl)
stays_there (x ∷ xs) zero (suc i) g differ e = (i, e)
stays_there (x ∷ xs) (suc place) zero g differ e = subst (λ ys. IsThere ys g) (sym (removed_rest x xs place)) (0, e)
stays_there (x ∷ xs) (suc place) (suc i) g differ e =
    subst (λ ys. IsThere ys g) (sym (removed_rest x xs place)) (behind x g (removed xs place) (stays_there xs place i g (λ f. differ (ap suc f)) e))
