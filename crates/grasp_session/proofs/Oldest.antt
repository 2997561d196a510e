-- Of the places from one on, the oldest session that is wanted.
use Rattle.std.proofs.Common.{◌≡◌, ℕ, ◌+◌, ◌<◌, ◌≤◌, Bool, true, false, cond, ◌&&◌, List, length, drop, Option, Some, None, is_some, is_none, IsSome, IfSome, option_copied, Bor, slice_index_or, nat_lt, nat_le, ◌==◌, refl, sym, ap, ◌∙◌, subst, arith}
use Rattle.std.specs.List.{position, position_or_len}
use Rattle.std.proofs.lemmas.Bool.{false≢true, and_parts, cond-true, cond-false, lt-ltb, le-ltb, eq-eqb}
use Rattle.std.proofs.lemmas.List.{drop_all, drop_more}
use Rattle.std.proofs.lemmas.List.Sums.{position_or_len_is}
use borrow.Author.Count.{below_more}
use Rattle.grasp_types.specs.declared.session.Handle.{Handle}
use Rattle.grasp_session.proofs.Calls.{some_none, not_some_none}
use Rattle.grasp_session.specs.declared.session.Session.{Session}
use Rattle.grasp_session.specs.declared.wanted.Wanted.{Wanted}
use Rattle.grasp_session.specs.Sessions.{if_number, older, oldest_from}
use Rattle.grasp_session.specs.Stands.{kept_at, fits_in, fits_at}

-- the oldest of the places from this one on
pub record IsBest (w : Wanted) (l : List (Option Session)) (place : ℕ) (best : Option Handle) : Type 0 where
  pub below : place ≤ 64
  pub long : length l ≡ 64
  pub best_is : best ≡ oldest_from (λ s. s.number) (fits_in w) place (drop place l)
  pub wanted : (h : Handle) → best ≡ Some h → fits_at w (kept_at l h) ≡ true

pub best_none : (w : Wanted) (l : List (Option Session)) (place : ℕ) → length l ≡ 64 → place ≡ 64 → IsBest w l place None
best_none w l place long e = record {
  below = omega (arith, e);
  long = long;
  best_is = sym (ap (oldest_from (λ s. s.number) (fits_in w) place) (drop_all place l (omega (arith, long, e))));
  wanted = λ h f. absurd (cc);
}

at_place : (w : Wanted) (l : List (Option Session)) (place : ℕ) (s : Session) → place < 64 → slice_index_or l place None ≡ Some s → fits_in w s ≡ true → fits_at w (kept_at l (record { place = place; number = s.number })) ≡ true
at_place w l place s p e f =
    ap (fits_at w)
    (cond-true (nat_lt place 64) (if_number (λ s. s.number) s.number (slice_index_or l place None)) None (lt-ltb place 64 p)
    ∙ (ap (if_number (λ s. s.number) s.number) e ∙ cond-true (s.number == s.number) (Some s) None (eq-eqb s.number s.number refl)))
    ∙ f

older_wanted : (w : Wanted) (l : List (Option Session)) (place : ℕ) (x : Option Session) (best : Option Handle) → place < 64 → slice_index_or l place None ≡ x → ((h : Handle) → best ≡ Some h → fits_at w (kept_at l h) ≡ true)
    → (h : Handle) → older (λ s. s.number) (fits_in w) place x best ≡ Some h → fits_at w (kept_at l h) ≡ true
older_wanted w l place None best p e f h g = f h g
older_wanted w l place (Some s) best p e f h g = by_test (fits_in w s && oldest_yet best) refl g where
  oldest_yet : Option Handle → Bool
  oldest_yet None = true
  oldest_yet (Some k) = nat_le s.number k.number

  by_test : (b : Bool) → fits_in w s && oldest_yet best ≡ b → cond b (Some (record { place = place; number = s.number })) best ≡ Some h → fits_at w (kept_at l h) ≡ true
  by_test true t q =
      let same : record { place = place; number = s.number } ≡ h = cc in
      subst (λ k. fits_at w (kept_at l k) ≡ true) same (at_place w l place s p e (and_parts (fits_in w s) (oldest_yet best) t).0)
  by_test false t q = f h q

-- a handle at which a wanted session lies is live
pub live_if : (w : Wanted) (o : Option Session) → fits_at w o ≡ true → IsSome o
live_if w None e = absurd (false≢true e)
live_if w (Some s) e = refl

pub best_more : (w : Wanted) (l : List (Option Session)) (place next : ℕ) (x : Option Session) (best : Option Handle) → IsBest w l place best → next + 1 ≡ place → slice_index_or l next None ≡ x
    → IsBest w l next (older (λ s. s.number) (fits_in w) next x best)
best_more w l place next x best b n e = record {
  below = omega (arith, b.below, n);
  long = b.long;
  best_is =
      sym (ap (oldest_from (λ s. s.number) (fits_in w) next) (drop_more l next None (omega (arith, b.below, b.long, n)))
      ∙ (ap (λ (y : Option Session). older (λ s. s.number) (fits_in w) next y (oldest_from (λ s. s.number) (fits_in w) (next + 1) (drop (next + 1) l))) e
      ∙ ap (older (λ s. s.number) (fits_in w) next x) (subst (λ p. oldest_from (λ s. s.number) (fits_in w) p (drop p l) ≡ best) (sym n) (sym b.best_is))));
  wanted = older_wanted w l next x best (omega (arith, b.below, n)) e b.wanted;
}

pub best_first : (w : Wanted) (l : List (Option Session)) (best : Option Handle) → IsBest w l 0 best → best ≡ oldest_from (λ s. s.number) (fits_in w) 0 l
best_first w l best b = b.best_is

pub if_some : {A : Type 0} (P : A → Type 0) (o : Option A) → ((x : A) → o ≡ Some x → P x) → IfSome o P
if_some P None f = tt
if_some P (Some x) f = f x refl

-- the first places all have a session
pub record AreFilled (l : List (Option Session)) (place : ℕ) : Type 0 where
  pub below : place ≤ 64
  pub long : length l ≡ 64
  pub filled : (k : ℕ) → k < place → is_none (slice_index_or l k None) ≡ false

pub filled_none : (l : List (Option Session)) → length l ≡ 64 → AreFilled l 0
filled_none l long = record { below = omega arith; long = long; filled = λ k h. absurd (omega (arith, h)) }

pub filled_more : (l : List (Option Session)) (place : ℕ) → AreFilled l place → place < 64 → is_some (slice_index_or l place None) ≡ true → AreFilled l (place + 1)
filled_more l place f p e = record { below = omega (arith, p); long = f.long; filled = below_more (λ k. is_none (slice_index_or l k None) ≡ false) place f.filled (some_none (slice_index_or l place None) e) }

at_position : (l : List (Option Session)) (place : ℕ) → position_or_len is_none l ≡ place → place < length l → position is_none l ≡ Some place
at_position l place e h = rw e (cond-true (nat_lt place (length l)) (Some place) None (lt-ltb place (length l) h))

-- the next place is the least empty one
pub filled_here : (l : List (Option Session)) (place : ℕ) → AreFilled l place → place < 64 → is_some (slice_index_or l place None) ≡ false → position is_none l ≡ Some place
filled_here l place f p e =
    let long : place < length l = omega (arith, p, f.long) in
    at_position l place (position_or_len_is is_none l place None (omega (arith, long)) f.filled (λ h. not_some_none (slice_index_or l place None) e)) long

-- no place is empty
pub filled_all : (l : List (Option Session)) (place : ℕ) → AreFilled l place → 64 ≤ place → position is_none l ≡ None
filled_all l place f p =
    let whole : place ≡ length l = omega (arith, p, f.below, f.long) in
    let e : position_or_len is_none l ≡ place = position_or_len_is is_none l place None (omega (arith, whole)) f.filled (λ h. absurd (omega (arith, h, whole))) in
    rw (e, whole) (cond-false (nat_lt (length l) (length l)) (Some (length l)) None (le-ltb (length l) (length l) (omega arith)))

pub copied_some : {T : Type 0} (o : Option (Bor T)) → is_some (option_copied o) ≡ is_some o
copied_some None = refl
copied_some (Some x) = refl
