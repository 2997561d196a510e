-- Of the refusals that have their cause, the first that is tested is the least.
use Rattle.std.proofs.Common.{◌≡◌, ◌≤◌, ◌⊎◌, inl, inr, ℕ, Bool, true, false, cond, List, [], ◌∷◌, Ok, Err, Result, refl, sym, ◌∙◌, subst, arith, rules}
use Rattle.std.specs.Bool.{Decides}
use Rattle.std.proofs.lemmas.Bool.{false≢true}
use Rattle.std.proofs.lemmas.Bool.Decides.{not_from_Decides}
use Rattle.grasp_laws_node.proofs.Bounded.Tests.{NoneHold, none_hold}
use Rattle.grasp_laws_node.specs.Laws.{IsLeast}
use Rattle.grasp_model_node.specs.Refusals.{Test, first_that, Sending, early_tests, late_tests, early, late, MayAnswer}
use Rattle.grasp_types.specs.Refusal.{refusal_number}
use Rattle.grasp_types.specs.declared.refusal.ApiRefused.{ApiRefused}
use Rattle.grasp_types.specs.declared.refusal.ApiRefused.TheVariants.{NoAsa, AsasFull, DuplicateAsa, NotBoth, ObjectivesFull, ObjectiveTaken, NotYourObjective, NotNegotiable, NotSynchronizable, NotDry, BadLocator, NoSession, NotYourTurn, LoopsSpent, WaitsSpent, NoFlood, SessionsFull, StreamsFull, TooLong, OutboxFull, OutOfMemory}
use Rattle.grasp_types.specs.declared.reply.ApiAnswer.{ApiAnswer}

-- a refusal that needs no message
abbrev pub IsEarly : ApiRefused → Type 0
IsEarly TooLong = ⊥
IsEarly OutboxFull = ⊥
IsEarly OutOfMemory = ⊥
IsEarly _ = Unit {0}

-- each test tells whether its refusal has its cause; those of what is sent do where nothing else refuses
pub record Tests (Cause : ApiRefused → Type 0) (holds : ApiRefused → Bool) (s : Sending) : Type 0 where
  pub first : (r : ApiRefused) → IsEarly r → Decides (holds r) (Cause r)
  pub long : early holds ≡ Ok tt → Decides s.too_long (Cause TooLong)
  pub full : early holds ≡ Ok tt → Decides s.outbox_full (Cause OutboxFull)
  pub memory : ¬ Cause OutOfMemory

-- ---- where none holds

pub none_early : (holds : ApiRefused → Bool) (r : ApiRefused) → IsEarly r → early holds ≡ Ok tt → holds r ≡ false
none_early holds r is e = by r is (none_hold (early_tests holds) e) where
  by : (r : ApiRefused) → IsEarly r → NoneHold (early_tests holds) → holds r ≡ false
  by NoAsa i k = k.0
  by AsasFull i k = k.1.0
  by DuplicateAsa i k = k.1.1.0
  by NotBoth i k = k.1.1.1.0
  by ObjectivesFull i k = k.1.1.1.1.0
  by ObjectiveTaken i k = k.1.1.1.1.1.0
  by NotYourObjective i k = k.1.1.1.1.1.1.0
  by NotNegotiable i k = k.1.1.1.1.1.1.1.0
  by NotSynchronizable i k = k.1.1.1.1.1.1.1.1.0
  by NotDry i k = k.1.1.1.1.1.1.1.1.1.0
  by BadLocator i k = k.1.1.1.1.1.1.1.1.1.1.0
  by NoSession i k = k.1.1.1.1.1.1.1.1.1.1.1.0
  by NotYourTurn i k = k.1.1.1.1.1.1.1.1.1.1.1.1.0
  by LoopsSpent i k = k.1.1.1.1.1.1.1.1.1.1.1.1.1.0
  by WaitsSpent i k = k.1.1.1.1.1.1.1.1.1.1.1.1.1.1.0
  by NoFlood i k = k.1.1.1.1.1.1.1.1.1.1.1.1.1.1.1.0
  by SessionsFull i k = k.1.1.1.1.1.1.1.1.1.1.1.1.1.1.1.1.0
  by StreamsFull i k = k.1.1.1.1.1.1.1.1.1.1.1.1.1.1.1.1.1.0
  by TooLong i k = absurd i
  by OutboxFull i k = absurd i
  by OutOfMemory i k = absurd i

-- ---- the first that holds

same : (a b : ApiRefused) → ◌≡◌ {A = Result (Unit {0}) ApiRefused} (Err a) (Err b) → a ≡ b
same a b e = cc

-- what each test gives
abbrev Give : (ApiRefused → Type 0) → List Test → Type 0
Give P [] = Unit {0}
Give P (x ∷ xs) = (x.holds ≡ true → P x.refusal) × Give P xs

first_gives : (P : ApiRefused → Type 0) (xs : List Test) (r : ApiRefused) → Give P xs → first_that xs ≡ Err r → P r
first_gives P [] r g e = absurd (cc)
first_gives P (x ∷ xs) r g e = by_test x.holds refl e (λ f. first_gives P xs r g.1 f) where
  by_test : (b : Bool) → x.holds ≡ b → cond b (Err x.refusal) (first_that xs) ≡ Err r → (first_that xs ≡ Err r → P r) → P r
  by_test true h f k = subst P (same x.refusal r f) (g.0 h)
  by_test false h f k = k f

gives : (holds : ApiRefused → Bool) → Give (λ k. IsEarly k × (holds k ≡ true)) (early_tests holds)
gives holds = ((λ e. (tt, e)), ((λ e. (tt, e)), ((λ e. (tt, e)), ((λ e. (tt, e)), ((λ e. (tt, e)), ((λ e. (tt, e)), ((λ e. (tt, e)), ((λ e. (tt, e)), ((λ e. (tt, e)), ((λ e. (tt, e)), ((λ e. (tt, e)), ((λ e. (tt, e)), ((λ e. (tt, e)), ((λ e. (tt, e)), ((λ e. (tt, e)), ((λ e. (tt, e)), ((λ e. (tt, e)), ((λ e. (tt, e)), tt))))))))))))))))))

early_low : (r : ApiRefused) → IsEarly r → refusal_number r ≤ 18
early_low TooLong i = absurd i
early_low OutboxFull i = absurd i
early_low OutOfMemory i = absurd i
early_low _ i = omega arith

-- numbers that rise from one on
abbrev Rising : ℕ → List Test → Type 0
Rising least [] = Unit {0}
Rising least (x ∷ xs) = (least ≤ refusal_number x.refusal) × Rising (refusal_number x.refusal) xs

behind : (xs : List Test) (r : ApiRefused) (least : ℕ) → refusal_number r ≤ least → Rising least xs → IsLeast xs r
behind [] r least h i = tt
behind (x ∷ xs) r least h i = ((λ e. omega (arith, h, i.0)), behind xs r (refusal_number x.refusal) (omega (arith, h, i.0)) i.1)

first_least : (xs : List Test) (r : ApiRefused) (least : ℕ) → Rising least xs → first_that xs ≡ Err r → IsLeast xs r
first_least [] r least i e = tt
first_least (x ∷ xs) r least i e = by_test x.holds refl e (λ f. first_least xs r (refusal_number x.refusal) i.1 f) where
  number : (k : ApiRefused) → k ≡ r → refusal_number r ≤ refusal_number k
  number k f = subst (λ (m : ApiRefused). refusal_number m ≤ refusal_number k) f (omega arith)

  by_test : (b : Bool) → x.holds ≡ b → cond b (Err x.refusal) (first_that xs) ≡ Err r → (first_that xs ≡ Err r → IsLeast xs r) → IsLeast (x ∷ xs) r
  by_test true h f k = let at = number x.refusal (same x.refusal r f) in ((λ g. at), behind xs r (refusal_number x.refusal) at i.1)
  by_test false h f k = ((λ g. absurd (false≢true (sym h ∙ g))), k f)

rises : (holds : ApiRefused → Bool) → Rising 1 (early_tests holds)
rises holds = search rules

least_early : (holds : ApiRefused → Bool) (r other : ApiRefused) → IsEarly other → early holds ≡ Err r → holds other ≡ true → refusal_number r ≤ refusal_number other
least_early holds r other is e h = by other is h (first_least (early_tests holds) r 1 (rises holds) e) where
  by : (k : ApiRefused) → IsEarly k → holds k ≡ true → IsLeast (early_tests holds) r → refusal_number r ≤ refusal_number k
  by NoAsa i h k = k.0 h
  by AsasFull i h k = k.1.0 h
  by DuplicateAsa i h k = k.1.1.0 h
  by NotBoth i h k = k.1.1.1.0 h
  by ObjectivesFull i h k = k.1.1.1.1.0 h
  by ObjectiveTaken i h k = k.1.1.1.1.1.0 h
  by NotYourObjective i h k = k.1.1.1.1.1.1.0 h
  by NotNegotiable i h k = k.1.1.1.1.1.1.1.0 h
  by NotSynchronizable i h k = k.1.1.1.1.1.1.1.1.0 h
  by NotDry i h k = k.1.1.1.1.1.1.1.1.1.0 h
  by BadLocator i h k = k.1.1.1.1.1.1.1.1.1.1.0 h
  by NoSession i h k = k.1.1.1.1.1.1.1.1.1.1.1.0 h
  by NotYourTurn i h k = k.1.1.1.1.1.1.1.1.1.1.1.1.0 h
  by LoopsSpent i h k = k.1.1.1.1.1.1.1.1.1.1.1.1.1.0 h
  by WaitsSpent i h k = k.1.1.1.1.1.1.1.1.1.1.1.1.1.1.0 h
  by NoFlood i h k = k.1.1.1.1.1.1.1.1.1.1.1.1.1.1.1.0 h
  by SessionsFull i h k = k.1.1.1.1.1.1.1.1.1.1.1.1.1.1.1.1.0 h
  by StreamsFull i h k = k.1.1.1.1.1.1.1.1.1.1.1.1.1.1.1.1.1.0 h
  by TooLong i h k = absurd i
  by OutboxFull i h k = absurd i
  by OutOfMemory i h k = absurd i

-- the refusal has its cause, and none with one has a lesser number
pub record IsFirst (Cause : ApiRefused → Type 0) (r : ApiRefused) : Type 0 where
  pub cause : Cause r
  pub least : (other : ApiRefused) → Cause other → refusal_number r ≤ refusal_number other

module _ (Cause : ApiRefused → Type 0) (holds : ApiRefused → Bool) (s : Sending) (t : Tests Cause holds s) where
  no_early : (r : ApiRefused) → IsEarly r → early holds ≡ Ok tt → ¬ Cause r
  no_early r is e = not_from_Decides (holds r) (t.first r is) (none_early holds r is e)

  none_at_all : early holds ≡ Ok tt → s.too_long ≡ false → s.outbox_full ≡ false → (r : ApiRefused) → ¬ Cause r
  none_at_all e a b TooLong = not_from_Decides s.too_long (t.long e) a
  none_at_all e a b OutboxFull = not_from_Decides s.outbox_full (t.full e) b
  none_at_all e a b OutOfMemory = t.memory
  none_at_all e a b r = no_early r tt e

  late_none : late s ≡ Ok tt → (s.too_long ≡ false) × (s.outbox_full ≡ false)
  late_none e = let k = none_hold (late_tests s) e in (k.0, k.1.0)

  pub none_answered : (Starves : Type 0) (Answers : ApiAnswer → Type 0) (a : ApiAnswer) → MayAnswer holds s Starves Answers (Ok a) → (r : ApiRefused) → ¬ Cause r
  none_answered Starves Answers a m = let k = late_none m.1 in none_at_all m.0 k.0 k.1

  -- ---- what is sent

  by_late : (r : ApiRefused) → early holds ≡ Ok tt → (a b : Bool) → s.too_long ≡ a → s.outbox_full ≡ b
      → ◌≡◌ {A = Result (Unit {0}) ApiRefused} (cond a (Err TooLong) (cond b (Err OutboxFull) (Ok tt))) (Err r) → IsFirst Cause r
  by_late r e true b f g h = subst (IsFirst Cause) (same TooLong r h) (record { cause = (t.long e).0 f; least = above }) where
    above : (other : ApiRefused) → Cause other → 19 ≤ refusal_number other
    above TooLong c = omega arith
    above OutboxFull c = omega arith
    above OutOfMemory c = absurd (t.memory c)
    above other c = absurd (no_early other tt e c)
  by_late r e false true f g h = subst (IsFirst Cause) (same OutboxFull r h) (record { cause = (t.full e).0 g; least = above }) where
    above : (other : ApiRefused) → Cause other → 20 ≤ refusal_number other
    above TooLong c = absurd (not_from_Decides s.too_long (t.long e) f c)
    above OutboxFull c = omega arith
    above OutOfMemory c = absurd (t.memory c)
    above other c = absurd (no_early other tt e c)
  by_late r e false false f g h = absurd (cc)

  -- ---- what is tested before

  by_early : (r : ApiRefused) → early holds ≡ Err r → IsFirst Cause r
  by_early r e = record { cause = (t.first r is.0).0 is.1; least = above } where
    is : IsEarly r × (holds r ≡ true)
    is = first_gives (λ k. IsEarly k × (holds k ≡ true)) (early_tests holds) r (gives holds) e

    low : refusal_number r ≤ 18
    low = early_low r is.0

    above : (other : ApiRefused) → Cause other → refusal_number r ≤ refusal_number other
    above TooLong c = omega (arith, low)
    above OutboxFull c = omega (arith, low)
    above OutOfMemory c = absurd (t.memory c)
    above other c = least_early holds r other tt e ((t.first other tt).1 c)

  -- what a refused call is refused for
  pub first_refused : (Starves : Type 0) (Answers : ApiAnswer → Type 0) (r : ApiRefused) → MayAnswer holds s Starves Answers (Err r)
      → IsFirst Cause r ⊎ (((other : ApiRefused) → ¬ Cause other) × (r ≡ OutOfMemory) × Starves)
  first_refused Starves Answers r (inl e) = inl (by_early r e)
  first_refused Starves Answers r (inr (e, inl f)) = inl (by_late r e s.too_long s.outbox_full refl refl f)
  first_refused Starves Answers r (inr (e, inr (f, g, h))) = let k = late_none f in inr (none_at_all e k.0 k.1, g, h)
