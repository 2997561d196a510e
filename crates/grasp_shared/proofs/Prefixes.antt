-- Beginnings of one list, and the calls of one pass in a history.
use Rattle.std.proofs.Common.{◌≡◌, ◌≢◌, ℕ, ◌≤◌, ◌==◌, cond, List, [], ◌∷◌, ◌++◌, length, refl, ap, sym, ◌∙◌, arith, append_assoc, subst, length-append, eq-eqb, ne_eqb}
use Rattle.std.proofs.lemmas.List.Elements.{filter-append}
use Rattle.std.proofs.lemmas.List.{append-nil}
use mathlib.Core.List.{IsPrefix}
use Rattle.grasp_shared.specs.History.{Entry, History, own_calls}

module _ {A : Type 0} where
  -- each list begins with itself
  pub prefix_self : (xs : List A) → IsPrefix xs xs
  prefix_self xs = ([], append-nil xs)

  pub prefix_trans : (xs ys zs : List A) → IsPrefix xs ys → IsPrefix ys zs → IsPrefix xs zs
  prefix_trans xs ys zs p q = (p.0 ++ q.0, sym (append_assoc xs p.0 q.0) ∙ (ap (λ w. w ++ q.0) p.1 ∙ q.1))

  pub prefix_length : (xs ys : List A) → IsPrefix xs ys → length xs ≤ length ys
  prefix_length xs ys p = omega (arith, sym (ap length p.1) ∙ length-append xs p.0)

  -- a beginning as long as the whole is the whole
  pub prefix_whole : (xs ys : List A) → IsPrefix xs ys → length ys ≤ length xs → xs ≡ ys
  prefix_whole [] [] p le = refl
  prefix_whole [] (y ∷ ys) p le = absurd (omega arith)
  prefix_whole (x ∷ xs) [] p le = absurd (cc (p.1))
  prefix_whole (x ∷ xs) (y ∷ ys) p le =
      let rest = prefix_whole xs ys (p.0, cc (p.1)) (omega arith) in cc (p.1, rest)

module _ {A : Type 0} where
  -- of two beginnings of one list the shorter begins the longer
  pub prefix_shorter : (xs ys zs : List A) → IsPrefix xs zs → IsPrefix ys zs → length xs ≤ length ys → IsPrefix xs ys
  prefix_shorter [] ys zs p q le = (ys, refl)
  prefix_shorter (x ∷ xs) [] zs p q le = absurd (omega arith)
  prefix_shorter (x ∷ xs) (y ∷ ys) [] p q le = absurd (cc (p.1))
  prefix_shorter (x ∷ xs) (y ∷ ys) (z ∷ zs) p q le =
      let heads : x ≡ y = cc (p.1, q.1) in
      let rest = prefix_shorter xs ys zs (p.0, cc (p.1)) (q.0, cc (q.1)) (omega arith) in
      (rest.0, cc (heads, rest.1))

pub calls_prefix : (n : ℕ) (xs ys : History) → IsPrefix xs ys → IsPrefix (own_calls n xs) (own_calls n ys)
calls_prefix n xs ys p = (own_calls n p.0, sym (filter-append (λ (x : Entry). x.caller == n) xs p.0) ∙ ap (own_calls n) p.1)

-- what has the same calls as a longer history has them as any between
pub between : (n : ℕ) (xs ys zs : History) → IsPrefix xs ys → IsPrefix ys zs → own_calls n xs ≡ own_calls n zs → own_calls n ys ≡ own_calls n zs
between n xs ys zs p q e =
    let a = calls_prefix n xs ys p in let b = calls_prefix n ys zs q in
    prefix_whole (own_calls n ys) (own_calls n zs) b (let h = prefix_length (own_calls n xs) (own_calls n ys) a in omega (arith, ap length e))

pub calls_none : (n : ℕ) (xs ys : History) → IsPrefix xs ys → own_calls n ys ≡ [] → own_calls n xs ≡ []
calls_none n xs ys p e = prefix_whole (own_calls n xs) [] (subst (λ (l : History). IsPrefix (own_calls n xs) l) e (calls_prefix n xs ys p)) (omega arith)

-- one more call of the pass itself, or of another
pub calls_own : (n : ℕ) (log : History) (e : Entry) → e.caller ≡ n → own_calls n (log ++ e ∷ []) ≡ own_calls n log ++ e ∷ []
calls_own n log e h = filter-append (λ (x : Entry). x.caller == n) log (e ∷ []) ∙ ap (λ b. own_calls n log ++ cond b (e ∷ []) []) (eq-eqb e.caller n h)

pub calls_other : (n : ℕ) (log : History) (e : Entry) → e.caller ≢ n → own_calls n (log ++ e ∷ []) ≡ own_calls n log
calls_other n log e h = filter-append (λ (x : Entry). x.caller == n) log (e ∷ []) ∙ (ap (λ b. own_calls n log ++ cond b (e ∷ []) []) (ne_eqb e.caller n h) ∙ append-nil (own_calls n log))
