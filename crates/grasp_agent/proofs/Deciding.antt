-- What a giver offers.
use Rattle.std.proofs.Common.{◌≡◌, ◌⊎◌, inl, inr, ℕ, zero, suc, ◌+◌, ◌-◌, ◌%◌, ◌<◌, ◌≤◌, ◌&&◌, nat_le, nat_lt, Bool, true, false, cond, List, [], ◌∷◌, ◌++◌, Contains, Option, Some, None, MatchOption, refl, sym, ap, subst, ◌∙◌, arith, rules}
use Rattle.std.proofs.lemmas.Bool.Decides.{nat_tests}
use Rattle.std.proofs.lemmas.List.Elements.{Contains-append_cases}
use Rattle.grasp_cbor.proofs.Facts.Lists.{same_first}
use Rattle.grasp_cbor.specs.DataItem.{DataItem}
use Rattle.grasp_types.specs.Prefix.{AddressBlock as Prefix}
use Rattle.grasp_pool.specs.Canonical.{IsLowestFree, HasNoFree}
use Rattle.grasp_pool.specs.Holdings.{Holding}
use Rattle.grasp_pool.specs.Pools.{IsPool, IsTaken, IsNotTaken, room_of}
use Rattle.grasp_pool.specs.Functions.{take_reply, after_take}
use Rattle.grasp_pool.proofs.Meanings.{take_answers}
use Rattle.grasp_agent.specs.Values.{asked_in}
use Rattle.grasp_agent.specs.Decisions.{upward, tries, rounded, candidates, given_or, first_given, giver_decision}
use Rattle.grasp_agent.specs.Deciding.{IsFirstFree}
use Rattle.grasp_agent.specs.Laws.{GiversOffer}
use Rattle.grasp_agent.specs.declared.decision.GiverDecision.TheVariants.{Offer}
use Rattle.grasp_agent.proofs.KeepDecisions.{asked_not_returned}
use Rattle.grasp_agent.proofs.Reading.{asked_range}

-- ---- the first that is given, by its parts

given_or_none : (o : Option Prefix) → given_or o None ≡ o
given_or_none None = refl
given_or_none (Some p) = refl

given_or_or : (a b c : Option Prefix) → given_or a (given_or b c) ≡ given_or (given_or a b) c
given_or_or None b c = refl
given_or_or (Some p) b c = refl

pub first_of_one : (h : Holding) (n loops : ℕ) (first : Bool)
    → first_given h (rounded n loops first) ≡ cond (first && (nat_le 4 loops && nat_lt 0 (n - n % 4))) (take_reply h (n - n % 4)) None
unfolding first_given
first_of_one h n loops first = choose (first && (nat_le 4 loops && nat_lt 0 (n - n % 4)))
  where
    choose : (b : Bool) → first_given h (cond b ((n - n % 4) ∷ []) []) ≡ cond b (take_reply h (n - n % 4)) None
    choose true = given_or_none (take_reply h (n - n % 4))
    choose false = refl

first_append : (h : Holding) (xs ys : List ℕ) → first_given h (xs ++ ys) ≡ given_or (first_given h xs) (first_given h ys)
unfolding first_given
first_append h [] ys = refl
first_append h (n ∷ ns) ys = ap (given_or (take_reply h n)) (first_append h ns ys) ∙ given_or_or (take_reply h n) (first_given h ns) (first_given h ys)

pub first_of_both : (h : Holding) (n loops : ℕ) (first : Bool)
    → first_given h (candidates n loops first) ≡ given_or (first_given h (rounded n loops first)) (first_given h (upward (tries n) n))
first_of_both h n loops first = first_append h (rounded n loops first) (upward (tries n) n)

pub none_upward : (h : Holding) (n : ℕ) → first_given h (upward 0 n) ≡ None
unfolding first_given upward
none_upward h n = refl

pub first_upward : (h : Holding) (k n : ℕ) → 0 < k → first_given h (upward k n) ≡ given_or (take_reply h n) (first_given h (upward (k - 1) (n + 1)))
unfolding first_given upward
first_upward h zero n pos = absurd (omega arith)
first_upward h (suc k) n pos =
    let e : suc k - 1 ≡ k = omega arith
    in ap (λ (j : ℕ). given_or (take_reply h n) (first_given h (upward j (n + 1)))) (sym e)

-- ---- members of lists of lengths

pub none_in : (x : ℕ) → Contains [] x → ⊥
none_in x (k, lt, is) = absurd (omega arith)

pub cons_first : (x : ℕ) (xs : List ℕ) → Contains (x ∷ xs) x
cons_first x xs = (zero, omega arith, refl)

pub cons_more : (x y : ℕ) (xs : List ℕ) → Contains xs y → Contains (x ∷ xs) y
cons_more x y xs (k, lt, is) = (suc k, omega arith, is)

pub cons_cases : (x y : ℕ) (xs : List ℕ) → Contains (x ∷ xs) y → (x ≡ y) ⊎ Contains xs y
cons_cases x y xs (zero, lt, is) = inl is
cons_cases x y xs (suc k, lt, is) = inr (k, omega arith, is)

pub tail_same : (x y : ℕ) (xs ys : List ℕ) → x ∷ xs ≡ y ∷ ys → xs ≡ ys
tail_same x y xs ys e = cc

-- ---- the first of a list of lengths that is free

-- each is the length of a prefix
abbrev pub AreLengths : List ℕ → Type 0
AreLengths ns = (m : ℕ) → Contains ns m → (1 ≤ m) × (m ≤ 128)

-- a pool with room gives the lowest, or has nothing of this length
taking : (h : Holding) (n : ℕ) → IsPool h → 128 ≤ room_of h → (1 ≤ n) × (n ≤ 128)
    → MatchOption (take_reply h n) (HasNoFree h.free n) (λ p. IsLowestFree h.free n p)
taking h n pool room range = choose (take_reply h n) (take_answers h n pool range.0 range.1)
  where
    choose : (o : Option Prefix) → MatchOption o (IsNotTaken h (after_take h n o) n) (λ p. IsTaken h (after_take h n o) n p)
        → MatchOption o (HasNoFree h.free n) (λ p. IsLowestFree h.free n p)
    choose None k = elim k.why [ inl few ↦ absurd (omega arith) | inr none ↦ none ]
    choose (Some p) k = k.least

-- what is given is the first that is free, and where nothing is given nothing is
abbrev pub IsGiven : Holding → List ℕ → Option Prefix → Type 0
IsGiven h ns o = MatchOption o ((m : ℕ) → Contains ns m → HasNoFree h.free m) (λ p. IsFirstFree h ns p)

taken_first : (h : Holding) (n : ℕ) (ns : List ℕ) (p : Prefix) → IsLowestFree h.free n p → IsFirstFree h (n ∷ ns) p
taken_first h n ns p low = record { tried = subst (λ (m : ℕ). Contains (n ∷ ns) m) (sym low.length) (cons_first n ns); least = subst (λ (m : ℕ). IsLowestFree h.free m p) (sym low.length) low; before = before }
  where
    before : (front rest : List ℕ) → n ∷ ns ≡ front ++ p.length ∷ rest → ¬ Contains front p.length → (m : ℕ) → Contains front m → HasNoFree h.free m
    before [] rest e unseen m has = absurd (none_in m has)
    before (f ∷ fs) rest e unseen m has =
        let same : f ≡ p.length = sym (same_first n f ns (fs ++ p.length ∷ rest) e) ∙ sym low.length
        in absurd (unseen (subst (λ (x : ℕ). Contains (f ∷ fs) x) same (cons_first f fs)))

taken_later : (h : Holding) (n : ℕ) (ns : List ℕ) (p : Prefix) → HasNoFree h.free n → IsFirstFree h ns p → IsFirstFree h (n ∷ ns) p
taken_later h n ns p none later = record { tried = cons_more n p.length ns later.tried; least = later.least; before = before }
  where
    before : (front rest : List ℕ) → n ∷ ns ≡ front ++ p.length ∷ rest → ¬ Contains front p.length → (m : ℕ) → Contains front m → HasNoFree h.free m
    before [] rest e unseen m has = absurd (none_in m has)
    before (f ∷ fs) rest e unseen m has = elim (cons_cases f m fs has) [
      | inl same ↦ subst (λ (x : ℕ). HasNoFree h.free x) (same_first n f ns (fs ++ p.length ∷ rest) e ∙ same) none
      | inr more ↦ later.before fs rest (tail_same n f ns (fs ++ p.length ∷ rest) e) (λ k. unseen (cons_more f p.length fs k)) m more
    ]

none_of : (h : Holding) (n : ℕ) (ns : List ℕ) → HasNoFree h.free n → ((m : ℕ) → Contains ns m → HasNoFree h.free m) → (m : ℕ) → Contains (n ∷ ns) m → HasNoFree h.free m
none_of h n ns none rest m has = elim (cons_cases n m ns has) [
  | inl same ↦ subst (λ (x : ℕ). HasNoFree h.free x) same none
  | inr more ↦ rest m more
]

pub first_is_free : (h : Holding) (ns : List ℕ) → IsPool h → 128 ≤ room_of h → AreLengths ns → IsGiven h ns (first_given h ns)
unfolding first_given
first_is_free h [] pool room lengths = λ m has. absurd (none_in m has)
first_is_free h (n ∷ ns) pool room lengths =
    choose (take_reply h n) (first_given h ns) (taking h n pool room (lengths n (cons_first n ns))) (first_is_free h ns pool room (λ m has. lengths m (cons_more n m ns has)))
  where
    later : (o : Option Prefix) → HasNoFree h.free n → IsGiven h ns o → IsGiven h (n ∷ ns) o
    later None none rest = none_of h n ns none rest
    later (Some p) none rest = taken_later h n ns p none rest

    choose : (o rest : Option Prefix) → MatchOption o (HasNoFree h.free n) (λ p. IsLowestFree h.free n p) → IsGiven h ns rest → IsGiven h (n ∷ ns) (given_or o rest)
    choose None rest none again = later rest none again
    choose (Some p) rest low again = taken_first h n ns p low

-- ---- the lengths that are tried

upward_range : (k n m : ℕ) → Contains (upward k n) m → (n ≤ m) × (m < n + k)
unfolding upward
upward_range zero n m has = absurd (none_in m has)
upward_range (suc k) n m has = elim (cons_cases n m (upward k (n + 1)) has) [
  | inl same ↦ (omega arith, omega arith)
  | inr more ↦ let r = upward_range k (n + 1) m more in let low : n + 1 ≤ m = r.0 in let high : m < (n + 1) + k = r.1 in (omega arith, omega arith)
]

rounded_range : (n loops m : ℕ) (first : Bool) → Contains (rounded n loops first) m → (1 ≤ m) × (m ≤ n)
rounded_range n loops m first has = choose (first && (nat_le 4 loops && nat_lt 0 (n - n % 4))) (λ e. some (last (nat_le 4 loops) (nat_lt 0 (n - n % 4)) (last first _ e))) has
  where
    last : (a b : Bool) → (a && b) ≡ true → b ≡ true
    last true b e = e
    last false true e = refl
    last false false e = absurd (cc)

    some : nat_lt 0 (n - n % 4) ≡ true → 0 < n - n % 4
    some e = search (rules, nat_tests)

    choose : (b : Bool) → (b ≡ true → 0 < n - n % 4) → Contains (cond b ((n - n % 4) ∷ []) []) m → (1 ≤ m) × (m ≤ n)
    choose false pos h = absurd (none_in m h)
    choose true pos h = elim (cons_cases (n - n % 4) m [] h) [
      | inl same ↦ let some : 0 < n - n % 4 = pos refl in (omega arith, omega arith)
      | inr more ↦ absurd (none_in m more)
    ]

pub candidates_range : (n loops : ℕ) (first : Bool) → 1 ≤ n → n ≤ 128 → AreLengths (candidates n loops first)
candidates_range n loops first least most m has = elim (Contains-append_cases (rounded n loops first) (upward (tries n) n) m has) [
  | inl one ↦ let r = rounded_range n loops m first one in let low : 1 ≤ m = r.0 in let high : m ≤ n = r.1 in (omega arith, omega arith)
  | inr more ↦ let r = upward_range (tries n) n m more in let low : n ≤ m = r.0 in let high : m < n + tries n = r.1 in (omega arith, omega arith)
]

-- ---- a giver

given : (h : Holding) (v : DataItem) (n loops : ℕ) (first : Bool) (p : Prefix) → asked_in (Some v) ≡ Some n → nat_le loops 1 ≡ false
    → first_given h (candidates n loops first) ≡ Some p → giver_decision h (Some v) loops first ≡ Offer p
unfolding giver_decision
given h v n loops first p asked more found = rw (asked_not_returned (Some v) n asked, asked, more, found) refl

pub more_loops : (loops : ℕ) → 2 ≤ loops → nat_le loops 1 ≡ false
more_loops loops more = search (rules, nat_tests)

pub givers_offer : GiversOffer
givers_offer h v n loops m first pool asked more room has free =
    let r = asked_range v n asked in
    choose (first_given h (candidates n loops first)) refl (first_is_free h (candidates n loops first) pool room (candidates_range n loops first r.0 r.1))
  where
    choose : (o : Option Prefix) → first_given h (candidates n loops first) ≡ o → IsGiven h (candidates n loops first) o
        → (p : Prefix) × (giver_decision h (Some v) loops first ≡ Offer p) × IsFirstFree h (candidates n loops first) p
    choose None e none = absurd (free (none m has))
    choose (Some p) e is = (p, given h v n loops first p asked (more_loops loops more) e, is)
