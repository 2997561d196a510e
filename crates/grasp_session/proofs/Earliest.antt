-- Before a reading no session without an outcome has its deadline.
use Rattle.std.proofs.Common.{◌≡◌, ℕ, ◌+◌, ◌<◌, ◌≤◌, Bool, true, false, cond, ◌&&◌, List, [], ◌∷◌, length, replicate, Option, Some, None, is_none, IfSome, All, slice_index_or, slice_set, nat_le, refl, ap, ◌∙◌, arith}
use Rattle.std.proofs.lemmas.List.Elements.{All-head, All-tail, All-weaker, All-set, All-replicate, All-from_get_or}
use borrow.Author.Count.{below_more}
use Rattle.grasp_session.specs.declared.session.Session.{Session}
use Rattle.grasp_session.specs.declared.wanted.Wanted.TheVariants.{Due}
use Rattle.grasp_session.specs.Sessions.{older, oldest_from}
use Rattle.grasp_session.specs.Stands.{fits_in}

-- the session at a place has no outcome only where its deadline is this reading or later
abbrev pub EndsFrom : ℕ → Option Session → Type 0
EndsFrom first held = IfSome held (λ s. is_none s.ending ≡ true → first ≤ s.deadline)

pub ends_before : (a b : ℕ) (held : Option Session) → a ≤ b → EndsFrom b held → EndsFrom a held
ends_before a b None le h = tt
ends_before a b (Some s) le h = λ e. let there = h e in omega arith

pub all_before : (a b : ℕ) (xs : List (Option Session)) → a ≤ b → All (EndsFrom b) xs → All (EndsFrom a) xs
all_before a b xs le h = All-weaker (EndsFrom b) (EndsFrom a) (λ held. ends_before a b held le) xs h

-- a place is filled
pub all_put : (a b : ℕ) (xs : List (Option Session)) (place : ℕ) (s : Session) → a ≤ b → a ≤ s.deadline → All (EndsFrom b) xs → All (EndsFrom a) (slice_set xs place (Some s))
all_put a b xs place s le here h = All-set (EndsFrom a) xs place (Some s) (λ e. here) (all_before a b xs le h)

-- a place is emptied
pub all_taken : (a : ℕ) (xs : List (Option Session)) (place : ℕ) → All (EndsFrom a) xs → All (EndsFrom a) (slice_set xs place None)
all_taken a xs place h = All-set (EndsFrom a) xs place None tt h

-- all places are empty
pub all_empty : (a n : ℕ) → All (EndsFrom a) (replicate n None)
all_empty a n = All-replicate (EndsFrom a) n None tt

-- the places below one
pub below_next : (a b : ℕ) (xs : List (Option Session)) (place : ℕ) → a ≤ b → EndsFrom a (slice_index_or xs place None) → ((k : ℕ) → k < place → EndsFrom b (slice_index_or xs k None))
    → (k : ℕ) → k < place + 1 → EndsFrom a (slice_index_or xs k None)
below_next a b xs place le here below = below_more (λ k. EndsFrom a (slice_index_or xs k None)) place (λ k lt. ends_before a b (slice_index_or xs k None) le (below k lt)) here

pub all_below : (a : ℕ) (xs : List (Option Session)) (place : ℕ) → length xs ≤ place → ((k : ℕ) → k < place → EndsFrom a (slice_index_or xs k None)) → All (EndsFrom a) xs
all_below a xs place whole below = All-from_get_or (EndsFrom a) xs None (λ i lt. below i (omega arith))

-- before that reading none is due

not_due : (first now : ℕ) (s : Session) → now < first → EndsFrom first (Some s) → fits_in (Due now) s ≡ false
not_due first now s lt h = by (is_none s.ending) refl
  where
    by : (b : Bool) → is_none s.ending ≡ b → (b && nat_le s.deadline now) ≡ false
    by true e =
        let there = h e in
        let ahead : now < s.deadline = omega arith in
        let no : nat_le s.deadline now ≡ false = grind (arith, ahead) in no
    by false e = refl

passed_over : (first now place : ℕ) (x : Option Session) → now < first → EndsFrom first x → older (λ s. s.number) (fits_in (Due now)) place x None ≡ None
passed_over first now place None lt h = refl
passed_over first now place (Some s) lt h = ap (λ b. cond (b && true) (Some (record { place = place; number = s.number })) None) (not_due first now s lt h)

pub none_due : (first now place : ℕ) (xs : List (Option Session)) → now < first → All (EndsFrom first) xs → oldest_from (λ s. s.number) (fits_in (Due now)) place xs ≡ None
none_due first now place [] lt h = refl
none_due first now place (x ∷ xs) lt h =
    ap (older (λ s. s.number) (fits_in (Due now)) place x) (none_due first now (place + 1) xs lt (All-tail (EndsFrom first) x xs h))
    ∙ passed_over first now place x lt (All-head (EndsFrom first) x xs h)
