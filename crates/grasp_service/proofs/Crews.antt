-- The agents of a node, one after the other.
use Rattle.std.proofs.Common.{◌≡◌, sym, ap, ◌∙◌, append_assoc, ℕ, zero, suc, ◌+◌, arith, List, [], ◌∷◌, ◌++◌, take, slice_get, Some}
use Rattle.grasp_crew.specs.declared.servant.Servant.{Servant}
use Rattle.grasp_service.specs.Plans.{herald_from, heralds_from, listener_from, listeners_from}
use Rattle.grasp_service.specs.declared.plan.HeraldPlan.{HeraldPlan}

heralds_more : (n : ℕ) (bs : List HeraldPlan) (i k : ℕ) (b : HeraldPlan) → slice_get bs i ≡ Some b → k ≡ n + i → heralds_from n (take (suc i) bs) ≡ heralds_from n (take i bs) ++ herald_from k b ∷ []
heralds_more n [] i k b at e = absurd (cc)
heralds_more n (x ∷ bs) zero k b at e =
    let same : x ≡ b = cc in
    let number : n ≡ k = omega (arith, e) in
    ap (λ m. herald_from m x ∷ []) number ∙ ap (λ y. herald_from k y ∷ []) same
heralds_more n (x ∷ bs) (suc i) k b at e = ap (λ l. herald_from n x ∷ l) (heralds_more (n + 1) bs i k b at (omega (arith, e)))

listeners_more : (n : ℕ) (names : List (List ℕ)) (i k : ℕ) (name : List ℕ) → slice_get names i ≡ Some name → k ≡ n + i
    → listeners_from n (take (suc i) names) ≡ listeners_from n (take i names) ++ listener_from k name ∷ []
listeners_more n [] i k name at e = absurd (cc)
listeners_more n (x ∷ names) zero k name at e =
    let same : x ≡ name = cc in
    let number : n ≡ k = omega (arith, e) in
    ap (λ m. listener_from m x ∷ []) number ∙ ap (λ y. listener_from k y ∷ []) same
listeners_more n (x ∷ names) (suc i) k name at e = ap (λ l. listener_from n x ∷ l) (listeners_more (n + 1) names i k name at (omega (arith, e)))

-- one more behind others
behind : (old crew news ms ns : List Servant) (m : Servant) → crew ≡ old ++ ms → news ≡ crew ++ m ∷ [] → ns ≡ ms ++ m ∷ [] → news ≡ old ++ ns
behind old crew news ms ns m h p e = p ∙ ap (λ l. l ++ m ∷ []) h ∙ append_assoc old ms (m ∷ []) ∙ ap (λ l. old ++ l) (sym e)

pub herald_added : (old crew news : List Servant) (bs : List HeraldPlan) (i : ℕ) (b : HeraldPlan) → slice_get bs i ≡ Some b → crew ≡ old ++ heralds_from 1 (take i bs)
    → news ≡ crew ++ herald_from (i + 1) b ∷ [] → news ≡ old ++ heralds_from 1 (take (i + 1) bs)
herald_added old crew news bs i b at h p =
    let next : i + 1 ≡ suc i = omega arith in
    behind old crew news (heralds_from 1 (take i bs)) (heralds_from 1 (take (i + 1) bs)) (herald_from (i + 1) b) h p
    (ap (λ m. heralds_from 1 (take m bs)) next ∙ heralds_more 1 bs i (i + 1) b at (omega arith))

pub listener_added : (old crew news : List Servant) (names : List (List ℕ)) (i : ℕ) (name : List ℕ) → slice_get names i ≡ Some name → crew ≡ old ++ listeners_from 1 (take i names)
    → news ≡ crew ++ listener_from (i + 1) name ∷ [] → news ≡ old ++ listeners_from 1 (take (i + 1) names)
listener_added old crew news names i name at h p =
    let next : i + 1 ≡ suc i = omega arith in
    behind old crew news (listeners_from 1 (take i names)) (listeners_from 1 (take (i + 1) names)) (listener_from (i + 1) name) h p
    (ap (λ m. listeners_from 1 (take m names)) next ∙ listeners_more 1 names i (i + 1) name at (omega arith))
