-- One prefix of the free ones is taken out of their list.
use Rattle.std.proofs.Common.{◌≡◌, ℕ, zero, suc, ◌+◌, ◌-◌, ◌<◌, ◌≤◌, ◌⊎◌, ◌↔◌, inl, inr, List, [], ◌∷◌, length, Contains, refl, sym, ap, subst, arith, Bool, true, false, cond, nat_lt, nat_le, Option, Some, None, is_some, IsTrue, MatchOption}
use Rattle.std.proofs.lemmas.Bool.{cases_lt, cases_eq}
use Rattle.std.proofs.lemmas.Bool.Decides.{leb_tells}
use Rattle.grasp_types.specs.Prefix.{AddressBlock as Prefix, span_of, Overlap}
use Rattle.grasp_pool.specs.Spans.{size, IsValid, Covers}
use Rattle.grasp_pool.specs.Canonical.{IsInside, IsRising, IsTidy}
use Rattle.grasp_pool.specs.Holdings.{Holding, IsFree, Reserves}
use Rattle.grasp_pool.specs.Parts.{ApartFrom, HasRoom, IsAnswer, IsFirstIn, first_part}
use Rattle.grasp_pool.specs.Pools.{IsPool, room_of, IsTakenAt, IsNotTakenAt}
use Rattle.grasp_pool.specs.Functions.{add, without, overlap_test, meeting, no_longer, around, split_at, rest_at, take_at_reply, after_take_at}
use Rattle.grasp_pool.proofs.Addresses.{first_in}
use Rattle.grasp_pool.proofs.Changes.{taken_pool, reserved_address}
use Rattle.grasp_pool.proofs.Cleaning.{removed_clean, removed_apart, removed_covers, apart_covers}
use Rattle.grasp_pool.proofs.Dyadic.{bounds_inside, inside_length}
use Rattle.grasp_pool.proofs.Equal.{add_members, add_rising, one_address, without_members, without_rising}
use Rattle.grasp_pool.proofs.Gaining.{overlap_tells}
use Rattle.grasp_pool.proofs.Growing.{add_length, without_length}
use Rattle.grasp_pool.proofs.Lists.{lt_tells}
use Rattle.grasp_pool.proofs.Maximal.{nested_inside, in_one_of, shared}
use Rattle.grasp_pool.proofs.Meeting.{none_meets}
use Rattle.grasp_pool.proofs.Splitting.{CanSplit, IsSplit, split_makes, part_valid, part_inside}
use Rattle.grasp_pool.proofs.Unique.{none_in, cons_cases, cons_more, cons_first, rising_head, rising_tail}

-- ---- which of the list has it

meeting_tells : (ps : List Prefix) (p : Prefix) → IsRising ps → IsAnswer ps p (meeting ps p)
unfolding meeting
meeting_tells [] p rising = λ q h. absurd (none_in q h)
meeting_tells (x ∷ xs) p rising = by (overlap_test x p) (overlap_tells x p) (meeting xs p) (meeting_tells xs p (rising_tail x xs rising))
  where
    rest : (o : Option Prefix) → ¬ Overlap x p → IsAnswer xs p o → IsAnswer (x ∷ xs) p o
    rest None miss again = λ q h. elim (cons_cases x q xs h) [ inl k ↦ again q k | inr e ↦ λ a i j. miss (a, (subst (λ r. span_of r a) (sym e) i, j)) ]
    rest (Some k) miss again = record {
      has = cons_more x k xs again.has;
      meets = again.meets;
      least = λ q h m. elim (cons_cases x q xs h) [ inl h' ↦ again.least q h' m | inr e ↦ absurd (miss (subst (λ r. Overlap r p) (sym e) m)) ];
    }

    first : Overlap x p → IsFirstIn (x ∷ xs) p x
    first meets = record {
      has = cons_first x xs;
      meets = meets;
      least = λ q h m. elim (cons_cases x q xs h) [
        | inl h' ↦ let lt : x.address < q.address = rising_head x xs rising q h' in omega arith
        | inr e ↦ let s : x.address ≡ q.address = ap (λ r. r.address) e in omega arith
      ];
    }

    by : (b : Bool) → ((b ≡ true) × Overlap x p) ⊎ ((b ≡ false) × (¬ Overlap x p)) → (o : Option Prefix) → IsAnswer xs p o → IsAnswer (x ∷ xs) p (cond b (Some x) o)
    by true (inl t) o again = first t.1
    by true (inr t) o again = absurd (cc)
    by false (inl t) o again = absurd (cc)
    by false (inr t) o again = rest o t.1 again

-- a rising list has one answer
one_answer : (ps : List Prefix) (p : Prefix) → IsRising ps → (x y : Option Prefix) → IsAnswer ps p x → IsAnswer ps p y → x ≡ y
one_answer ps p rising None None a b = refl
one_answer ps p rising None (Some k) a b = absurd (none_meets ps p a k b.has b.meets)
one_answer ps p rising (Some j) None a b = absurd (none_meets ps p b j a.has a.meets)
one_answer ps p rising (Some j) (Some k) a b =
    let le : j.address ≤ k.address = a.least k b.has b.meets
    in let ge : k.address ≤ j.address = b.least j a.has a.meets
    in ap (λ v. Some v) (one_address ps rising j k a.has b.has (omega arith))

pub meeting_is : (ps : List Prefix) (p : Prefix) → IsRising ps → (o : Option Prefix) → IsAnswer ps p o → o ≡ meeting ps p
meeting_is ps p rising o answer = one_answer ps p rising o (meeting ps p) answer (meeting_tells ps p rising)

-- w is one of the list, and has all of p
pub record IsAround (ps : List Prefix) (p w : Prefix) : Type 0 where
  pub has : Contains ps w
  pub inside : IsInside p w
  pub short : w.length ≤ p.length

abbrev AllCovered : List Prefix → Prefix → Type 0
AllCovered ps p = (a : ℕ) → span_of p a → Covers ps a

around_tells : (ps : List Prefix) (p : Prefix) → IsTidy ps → IsValid p → MatchOption (around ps p) (¬ AllCovered ps p) (λ w. IsAround ps p w)
around_tells ps p tidy v = by (meeting ps p) (meeting_tells ps p tidy.rising)
  where
    by_length : (q : Prefix) → IsFirstIn ps p q → (b : Bool) → ((b ≡ true) × (q.length ≤ p.length)) ⊎ ((b ≡ false) × (p.length < q.length))
        → MatchOption (cond b (Some q) None) (¬ AllCovered ps p) (λ w. IsAround ps p w)
    by_length q m true (inl t) = record { has = m.has; inside = nested_inside q p m.meets.0 (tidy.clean.valid q m.has) v t.1 m.meets.1.0 m.meets.1.1; short = t.1 }
    by_length q m true (inr t) = absurd (cc)
    by_length q m false (inl t) = absurd (cc)
    by_length q m false (inr t) = λ all.
        let o : (r : Prefix) × Contains ps r × IsInside p r = in_one_of ps tidy.clean p (record { valid = v; all = all })
        in let same : q ≡ o.0 = shared ps tidy.clean q o.0 m.meets.0 m.has o.1 m.meets.1.0 (o.2 m.meets.0 m.meets.1.1)
        in let b : (o.0.address ≤ p.address) × (p.address + size p ≤ o.0.address + size o.0) = bounds_inside p o.0 o.2
        in let most : o.0.length ≤ 128 = (tidy.clean.valid o.0 o.1).most
        in let l : o.0.length ≤ p.length = inside_length p o.0 most b.0 b.1
        in let s : q.length ≡ o.0.length = ap (λ (r : Prefix). r.length) same
        in let lt : p.length < q.length = t.1
        in omega arith

    by : (o : Option Prefix) → IsAnswer ps p o → MatchOption (no_longer p o) (¬ AllCovered ps p) (λ w. IsAround ps p w)
    by None apart = λ all. apart_covers ps p apart p.address (first_in p) (all p.address (first_in p))
    by (Some q) m = by_length q m (nat_le q.length p.length) (leb_tells q.length p.length)

-- the one around p, where there is one
pub found_around : (ps : List Prefix) (p w : Prefix) → IsTidy ps → IsValid p → around ps p ≡ Some w → IsAround ps p w
found_around ps p w tidy v e = subst (λ o. MatchOption o (¬ AllCovered ps p) (λ q. IsAround ps p q)) e (around_tells ps p tidy v)

-- and the first part of an entry lies in it
pub part_around : (ps : List Prefix) (w : Prefix) (n : ℕ) → IsTidy ps → Contains ps w → w.length ≤ n → n ≤ 128 → IsValid (first_part w n) × IsAround ps (first_part w n) w
part_around ps w n tidy has short most =
    let v : IsValid w = tidy.clean.valid w has
    in (part_valid w n v short most, record { has = has; inside = part_inside w n v short most; short = short })

-- ---- the list without it

-- the list without w, of which p is a part
pub record IsLeft (ps : List Prefix) (p w : Prefix) (mid : List Prefix) : Type 0 where
  pub tidy : IsTidy mid
  pub valid : IsValid w
  pub apart : ApartFrom mid w
  pub fewer : length mid + 1 ≡ length ps
  pub split : IsSplit mid w p (split_at (p.length - w.length) w p.address mid) (p.length - w.length)

pub part_left : (ps : List Prefix) (p w : Prefix) → IsTidy ps → IsValid p → IsAround ps p w → IsLeft ps p w (without w.address ps)
part_left ps p w tidy v a =
    let removed = without_members w ps tidy.rising a.has
    in let mid : List Prefix = without w.address ps
    in let tidy' : IsTidy mid = record { clean = removed_clean ps mid w tidy.clean removed; rising = without_rising w ps tidy.rising a.has }
    in let apart : ApartFrom mid w = removed_apart ps mid w tidy.clean removed a.has
    in let short : w.length ≤ p.length = a.short
    in record {
      tidy = tidy';
      valid = tidy.clean.valid w a.has;
      apart = apart;
      fewer = without_length w ps a.has;
      split = split_makes (p.length - w.length) w p mid (omega arith) tidy' (tidy.clean.valid w a.has) v a.inside apart;
    }

-- it can be split up
pub can_split : (ps mid : List Prefix) (p w : Prefix) → IsTidy ps → HasRoom ps 126 → IsValid p → IsAround ps p w → mid ≡ without w.address ps → CanSplit mid w p
can_split ps mid p w tidy room v a e =
    let l : IsLeft ps p w (without w.address ps) = part_left ps p w tidy v a
    in let fewer : length (without w.address ps) + 1 ≡ length ps = l.fewer
    in let one : 1 ≤ w.length = l.valid.least
    in let most : p.length ≤ 128 = v.most
    in subst (λ xs. CanSplit xs w p) (sym e) (record { tidy = l.tidy; room = omega arith; valid = l.valid; longer = a.short; apart = l.apart })

-- ---- the pool

module _ (h : Holding) (p : Prefix) (pool : IsPool h) (v : IsValid p) where
  -- p goes out of the free list, where this one of it has all of p
  abbrev left : Option Prefix → Holding
  left o = record { free = rest_at h.free p o; reserved = add p h.reserved; doubtful = h.doubtful }

  module _ (w : Prefix) (a : IsAround h.free p w) where
    gone : IsLeft h.free p w (without w.address h.free)
    gone = part_left h.free p w pool.free v a

    around_new : (q : Prefix) → Contains h.reserved q → ¬ (q.address ≡ p.address)
    around_new = reserved_address h pool p (record { valid = v; all = λ x i. (w, a.has, a.inside x i) })

    around_reserves : Reserves h (left (Some w)) p
    around_reserves =
        let both = λ (x : ℕ). removed_covers h.free (without w.address h.free) w (without_members w h.free pool.free.rising a.has) a.has x
        in let s = gone.split
        in record {
          was = λ x i. (w, a.has, a.inside x i);
          free = λ x. (
            λ c. ((both x).1 ((s.same x).0 (inl c)), λ i. apart_covers (rest_at h.free p (Some w)) p s.apart x i c),
            λ k. elim ((s.same x).1 ((both x).0 k.0)) [ inl c ↦ c | inr i ↦ absurd (k.1 i) ],
          );
          reserved = add_members p h.reserved;
          doubtful = refl;
        }

    around_pool : 128 ≤ room_of h → IsPool (left (Some w))
    around_pool room =
        let s = gone.split
        in let fewer : length (without w.address h.free) + 1 ≡ length h.free = gone.fewer
        in let more : length (rest_at h.free p (Some w)) ≡ length (without w.address h.free) + (p.length - w.length) = s.more
        in let one : 1 ≤ w.length = gone.valid.least
        in let most : p.length ≤ 128 = v.most
        in let added : length (add p h.reserved) ≡ length h.reserved + 1 = add_length p h.reserved
        in taken_pool h (left (Some w)) p pool around_reserves v s.tidy (add_rising p h.reserved pool.reserved around_new) (omega arith)

  -- an address of p that isn't free is found, where not all are
  covers_or_not : (ps : List Prefix) (x : ℕ) → Covers ps x ⊎ (¬ Covers ps x)
  covers_or_not [] x = inr (λ c. none_in c.0 c.1)
  covers_or_not (q ∷ qs) x = elim (covers_or_not qs x) [
    | inl c ↦ inl (c.0, cons_more q c.0 qs c.1, c.2)
    | inr none ↦ elim (cases_lt x q.address) [
      | inl below ↦ inr (λ c. elim (cons_cases q c.0 qs c.1) [
        | inl m ↦ none (c.0, m, c.2)
        | inr e ↦ let b : q.address ≤ x = (subst (λ r. span_of r x) (sym e) c.2).0 in omega arith
      ])
      | inr le ↦ elim (cases_lt x (q.address + size q)) [
        | inl lt ↦ inl (q, cons_first q qs, (le, lt))
        | inr past ↦ inr (λ c. elim (cons_cases q c.0 qs c.1) [
          | inl m ↦ none (c.0, m, c.2)
          | inr e ↦ let b : x < q.address + size q = (subst (λ r. span_of r x) (sym e) c.2).1 in omega arith
        ])
      ]
    ]
  ]

  uncovered : (n : ℕ) → n ≤ size p → ((x : ℕ) → p.address ≤ x → x < p.address + n → Covers h.free x) ⊎ ((x : ℕ) × span_of p x × (¬ IsFree h x))
  uncovered zero le = inl (λ x ge lt. absurd (omega arith))
  uncovered (suc n) le = elim (uncovered n (omega arith)) [
    | inr found ↦ inr found
    | inl all ↦ elim (covers_or_not h.free (p.address + n)) [
      | inr none ↦ inr (p.address + n, (omega arith, omega arith), none)
      | inl c ↦ inl (λ x ge lt. elim (cases_eq x (p.address + n)) [
        | inl e ↦ subst (λ y. Covers h.free y) (sym e) c
        | inr ne ↦ all x ge (grind arith)
      ])
    ]
  ]

  not_free : ¬ AllCovered h.free p → (x : ℕ) × span_of p x × (¬ IsFree h x)
  not_free some = elim (uncovered (size p) (omega arith)) [
    | inl all ↦ absurd (some (λ x i. all x i.0 i.1))
    | inr found ↦ found
  ]

  -- whether there is room, and one around p
  abbrev Told : Option Prefix → Bool → Type 0
  Told o b = (IsTrue b → IsTakenAt h (left o) p × IsPool (left o)) × (¬ IsTrue b → (room_of h < 128) ⊎ ((x : ℕ) × span_of p x × (¬ IsFree h x)))

  told : Told (around h.free p) (take_at_reply h p)
  told = by (nat_lt (room_of h) 128) (lt_tells (room_of h) 128)
    where
      found : 128 ≤ room_of h → (o : Option Prefix) → MatchOption o (¬ AllCovered h.free p) (λ w. IsAround h.free p w) → Told o (is_some o)
      found room None none = (λ t. absurd (cc), λ _. inr (not_free none))
      found room (Some w) a = (λ _. (record { room = room; reserves = around_reserves w a }, around_pool w a room), λ f. absurd (f refl))

      by : (b : Bool) → ((b ≡ true) × (room_of h < 128)) ⊎ ((b ≡ false) × (128 ≤ room_of h)) → Told (around h.free p) (cond b false (is_some (around h.free p)))
      by true (inl t) = (λ f. absurd (cc), λ _. inl t.1)
      by true (inr t) = absurd (cc)
      by false (inl t) = absurd (cc)
      by false (inr t) = found t.1 (around h.free p) (around_tells h.free p pool.free v)

  pub take_at_takes : IsTrue (take_at_reply h p) → IsTakenAt h (after_take_at h p (take_at_reply h p)) p
  take_at_takes = by (take_at_reply h p) told
    where
      by : (b : Bool) → Told (around h.free p) b → IsTrue b → IsTakenAt h (after_take_at h p b) p
      by true t = λ yes. (t.0 yes).0
      by false t = λ yes. absurd (cc)

  pub take_at_refuses : ¬ IsTrue (take_at_reply h p) → IsNotTakenAt h (after_take_at h p (take_at_reply h p)) p
  take_at_refuses = by (take_at_reply h p) told
    where
      by : (b : Bool) → Told (around h.free p) b → ¬ IsTrue b → IsNotTakenAt h (after_take_at h p b) p
      by true t = λ no. absurd (no refl)
      by false t = λ no. record { same = refl; why = t.1 no }

  pub take_at_keeps : IsPool (after_take_at h p (take_at_reply h p))
  take_at_keeps = by (take_at_reply h p) told
    where
      by : (b : Bool) → Told (around h.free p) b → IsPool (after_take_at h p b)
      by true t = (t.0 refl).1
      by false t = pool

  pub free_is : IsTrue (is_some (around h.free p)) ↔ AllCovered h.free p
  free_is = by (around h.free p) (around_tells h.free p pool.free v)
    where
      by : (o : Option Prefix) → MatchOption o (¬ AllCovered h.free p) (λ w. IsAround h.free p w) → IsTrue (is_some o) ↔ AllCovered h.free p
      by None none = (λ t. absurd (cc), λ all. absurd (none all))
      by (Some w) a = (λ _. λ x i. (w, a.has, a.inside x i), λ _. refl)

  -- no reserved prefix begins where p does
  pub free_new : is_some (around h.free p) ≡ true → (q : Prefix) → Contains h.reserved q → ¬ (q.address ≡ p.address)
  free_new e = reserved_address h pool p (record { valid = v; all = free_is.0 e })
