-- The first refusal that holds is the least.
use Rattle.std.proofs.Common.{◌≡◌, ◌≤◌, ℕ, Bool, true, false, cond, List, [], ◌∷◌, ◌++◌, Ok, Err, inl, inr, refl, ◌∙◌, subst, arith, rules}
use Rattle.grasp_types.specs.Refusal.{refusal_number}
use Rattle.grasp_types.specs.declared.refusal.ApiRefused.{ApiRefused}
use Rattle.grasp_model_node.specs.Refusals.{Test, first_that, early_tests, late_tests, all_tests}
use Rattle.grasp_laws_node.specs.Laws.{IsLeast, LeastIsAnswered, AnswersTheFirst}

first_append : (ts us : List Test) (r : ApiRefused) → first_that ts ≡ Err r → first_that (ts ++ us) ≡ Err r
first_append [] us r e = absurd (cc)
first_append (t ∷ ts) us r e = by_test t.holds e (λ f. first_append ts us r f) where
  by_test : (b : Bool) → cond b (Err t.refusal) (first_that ts) ≡ Err r → (first_that ts ≡ Err r → first_that (ts ++ us) ≡ Err r) → cond b (Err t.refusal) (first_that (ts ++ us)) ≡ Err r
  by_test true g f = g
  by_test false g f = f g

then_append : (ts us : List Test) → first_that ts ≡ Ok tt → first_that (ts ++ us) ≡ first_that us
then_append [] us e = refl
then_append (t ∷ ts) us e = by_test t.holds e (λ f. then_append ts us f) where
  by_test : (b : Bool) → cond b (Err t.refusal) (first_that ts) ≡ Ok tt → (first_that ts ≡ Ok tt → first_that (ts ++ us) ≡ first_that us) → cond b (Err t.refusal) (first_that (ts ++ us)) ≡ first_that us
  by_test true g f = absurd (cc)
  by_test false g f = f g

pub the_first : AnswersTheFirst
the_first holds s r (inl e) = inl (first_append (early_tests holds) (late_tests s) r e)
the_first holds s r (inr (g, inl e)) = inl (then_append (early_tests holds) (late_tests s) g ∙ e)
the_first holds s r (inr (g, inr e)) = inr (then_append (early_tests holds) (late_tests s) g ∙ e.0, e.1)

-- numbers that rise from one on
abbrev Rising : ℕ → List Test → Type 0
Rising least [] = Unit {0}
Rising least (t ∷ ts) = (least ≤ refusal_number t.refusal) × Rising (refusal_number t.refusal) ts

above : (ts : List Test) (r : ApiRefused) (least : ℕ) → refusal_number r ≤ least → Rising least ts → IsLeast ts r
above [] r least h i = tt
above (t ∷ ts) r least h i = ((λ e. omega (arith, h, i.0)), above ts r (refusal_number t.refusal) (omega (arith, h, i.0)) i.1)

least_first : (ts : List Test) (r : ApiRefused) (least : ℕ) → Rising least ts → first_that ts ≡ Err r → IsLeast ts r
least_first [] r least i e = tt
least_first (t ∷ ts) r least i e = by_test t.holds refl e (λ f. least_first ts r (refusal_number t.refusal) i.1 f) where
  by_test : (b : Bool) → t.holds ≡ b → cond b (Err t.refusal) (first_that ts) ≡ Err r → (first_that ts ≡ Err r → IsLeast ts r) → IsLeast (t ∷ ts) r
  by_test true q g f = let same : t.refusal ≡ r = cc in ((λ x. subst (λ (k : ApiRefused). refusal_number k ≤ refusal_number t.refusal) same (omega arith)), above ts r (refusal_number t.refusal) (subst (λ (k : ApiRefused). refusal_number k ≤ refusal_number t.refusal) same (omega arith)) i.1)
  by_test false q g f = ((λ x. absurd (cc)), f g)

pub the_least : LeastIsAnswered
the_least holds s r e = least_first (all_tests holds s) r 1 (search rules) e
