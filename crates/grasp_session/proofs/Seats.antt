-- Places over the keys of a slab.
use Rattle.std.proofs.Common.{◌≡◌, ◌≢◌, ℕ, zero, suc, ◌+◌, ◌==◌, ◌<◌, ◌≤◌, true, false, cond, List, [], ◌∷◌, length, ◌⊎◌, inl, inr, Option, Some, None, is_some, IsSome, count_by, slice_index_or, slice_set, replicate, refl, sym, ap, ◌∙◌, subst, arith}
use Rattle.std.proofs.lemmas.Bool.{false≢true}
use Rattle.std.proofs.lemmas.Bool.Decides.{eqb_tells}
use Rattle.std.proofs.lemmas.List.{map-set, set-get_or, get_or-set_same, get_or-set_other, length-set}
use Rattle.std.proofs.lemmas.List.Sums.{sum_by-set, sum_by-cons, count_by-le-length}
use Rattle.std.proofs.Math.ListN as lists
use Rattle.slab.specs.Slab.{Slab, get, slab_len, HasRoomFor}
use Rattle.grasp_session.specs.declared.session.Session.{Session}
use Rattle.grasp_session.specs.Places.{at_key, held, AreSound}

abbrev key_at : List (Option ℕ) → ℕ → Option ℕ
key_at ks p = slice_index_or ks p None

-- the session at a place lies under its key
pub held_at : (s : Slab Session) (ks : List (Option ℕ)) (p : ℕ) → slice_index_or (held s ks) p None ≡ at_key s (key_at ks p)
held_at s ks p = lists.get_or-map (at_key s) ks p None

-- what a place has after a write
pub set_cases : {A : Type 0} (ks : List A) (p q : ℕ) (v d : A) → p < length ks → ((q ≡ p) × (slice_index_or (slice_set ks p v) q d ≡ v)) ⊎ ((q ≢ p) × (slice_index_or (slice_set ks p v) q d ≡ slice_index_or ks q d))
set_cases {A} ks p q v d h = by_test (eqb_tells q p) where
  by_test : (((q == p) ≡ true) × (q ≡ p)) ⊎ (((q == p) ≡ false) × (q ≢ p)) → ((q ≡ p) × (slice_index_or (slice_set ks p v) q d ≡ v)) ⊎ ((q ≢ p) × (slice_index_or (slice_set ks p v) q d ≡ slice_index_or ks q d))
  by_test (inl e) = inl (e.1, subst (λ k. slice_index_or (slice_set ks p v) k d ≡ v) (sym e.1) (get_or-set_same ks p v d h))
  by_test (inr n) = inr (n.1, get_or-set_other ks p q v d n.1)

-- two slabs have the same at these keys
pub held_same : (s t : Slab Session) (ks : List (Option ℕ)) → ((p key : ℕ) → key_at ks p ≡ Some key → get t key ≡ get s key) → held t ks ≡ held s ks
held_same s t [] f = refl
held_same s t (None ∷ ks) f = ap (λ (l : List (Option Session)). None ∷ l) (held_same s t ks (λ p key e. f (suc p) key e))
held_same s t (Some k ∷ ks) f =
    ap (λ (x : Option Session). x ∷ held t ks) (f 0 k refl) ∙ ap (λ (l : List (Option Session)). get s k ∷ l) (held_same s t ks (λ p key e. f (suc p) key e))

-- how many there are
abbrev one : {A : Type 0} → Option A → ℕ
one x = cond (is_some x) 1 0

pub held_count : (s : Slab Session) (ks : List (Option ℕ)) → ((p key : ℕ) → key_at ks p ≡ Some key → IsSome (get s key)) → count_by is_some (held s ks) ≡ count_by is_some ks
held_count s [] f = refl
held_count s (x ∷ ks) f =
    let a = sum_by-cons one (at_key s x) (held s ks) in
    let b = sum_by-cons one x ks in
    let h = held_count s ks (λ p key e. f (suc p) key e) in
    let z = head x (λ key e. f 0 key e) in omega (arith, a, b, h, z) where
      head : (x : Option ℕ) → ((key : ℕ) → x ≡ Some key → IsSome (get s key)) → one (at_key s x) ≡ one x
      head None g = refl
      head (Some key) g = ap (λ b. cond b 1 0) (g key refl)

count_filled : (ks : List (Option ℕ)) (p key : ℕ) → p < length ks → key_at ks p ≡ None → count_by is_some (slice_set ks p (Some key)) ≡ count_by is_some ks + 1
count_filled ks p key h e =
    let k = sum_by-set one ks p (Some key) None h in
    let z : one (key_at ks p) ≡ 0 = ap one e in omega (arith, k, z)

count_emptied : (ks : List (Option ℕ)) (p key : ℕ) → p < length ks → key_at ks p ≡ Some key → count_by is_some (slice_set ks p None) + 1 ≡ count_by is_some ks
count_emptied ks p key h e =
    let k = sum_by-set one ks p None None h in
    let z : one (key_at ks p) ≡ 1 = ap one e in omega (arith, k, z)

-- an empty place leaves room
pub has_room : (s : Slab Session) (ks : List (Option ℕ)) (p : ℕ) → AreSound s ks → p < 64 → key_at ks p ≡ None → HasRoomFor s 1
has_room s ks p a h e =
    let long : p < length ks = omega (arith, h, a.long) in
    let k = count_filled ks p 0 long e in
    let most = count_by-le-length is_some (slice_set ks p (Some 0)) in
    let same = length-set ks p (Some 0) in omega (arith, k, most, same, a.long, a.counted, a.room)

-- an empty place has no key
pub empty_key : (s : Slab Session) (ks : List (Option ℕ)) (p : ℕ) → AreSound s ks → slice_index_or (held s ks) p None ≡ None → key_at ks p ≡ None
empty_key s ks p a e = by_key (key_at ks p) refl where
  by_key : (k : Option ℕ) → key_at ks p ≡ k → key_at ks p ≡ None
  by_key None f = f
  by_key (Some key) f =
      let none : get s key ≡ None = sym (ap (at_key s) f) ∙ (sym (held_at s ks p) ∙ e) in
      absurd (false≢true (sym (ap is_some none) ∙ a.filled p key f))

-- a session is put under a new key
pub record IsPut (s t : Slab Session) (key : ℕ) (session : Session) : Type 0 where
  pub fresh : get s key ≡ None
  pub changed : get t key ≡ Some session
  pub others : (other : ℕ) → other ≢ key → get t other ≡ get s other
  pub count : slab_len t ≡ slab_len s + 1
  pub capacity : t.capacity ≡ s.capacity

not_fresh : (s t : Slab Session) (ks : List (Option ℕ)) (key : ℕ) (session : Session) (p k : ℕ) → AreSound s ks → IsPut s t key session → key_at ks p ≡ Some k → k ≢ key
not_fresh s t ks key session p k a u e same = false≢true (sym (ap is_some u.fresh) ∙ subst (λ j. IsSome (get s j)) same (a.filled p k e))

pub put_same : (s t : Slab Session) (ks : List (Option ℕ)) (key : ℕ) (session : Session) → AreSound s ks → IsPut s t key session → held t ks ≡ held s ks
put_same s t ks key session a u = held_same s t ks (λ p k e. u.others k (not_fresh s t ks key session p k a u e))

pub put_held : (s t : Slab Session) (ks : List (Option ℕ)) (place key : ℕ) (session : Session) → AreSound s ks → IsPut s t key session
    → held t (slice_set ks place (Some key)) ≡ slice_set (held s ks) place (Some session)
put_held s t ks place key session a u =
    map-set (at_key t) ks place (Some key) ∙ (ap (λ x. slice_set (held t ks) place x) u.changed ∙ ap (λ (l : List (Option Session)). slice_set l place (Some session)) (put_same s t ks key session a u))

some_key : (k j : ℕ) → Some k ≡ Some j → k ≡ j
some_key k j e = cc

pub put_sound : (s t : Slab Session) (ks : List (Option ℕ)) (place key : ℕ) (session : Session) → AreSound s ks → IsPut s t key session → place < 64 → key_at ks place ≡ None
    → AreSound t (slice_set ks place (Some key))
put_sound s t ks place key session a u h none = record {
  long = length-set ks place (Some key) ∙ a.long;
  filled = λ p k e. filled p k e (set_cases ks place p (Some key) None long);
  apart = λ p q k e f. apart p q k e f (set_cases ks place p (Some key) None long) (set_cases ks place q (Some key) None long);
  counted = u.count ∙ (ap (λ n. n + 1) a.counted ∙ sym (count_filled ks place key long none));
  room = subst (λ n. 64 ≤ n) (sym u.capacity) a.room;
} where
  long : place < length ks
  long = omega (arith, h, a.long)

  new : List (Option ℕ)
  new = slice_set ks place (Some key)

  filled : (p k : ℕ) → key_at (slice_set ks place (Some key)) p ≡ Some k → ((p ≡ place) × (key_at (slice_set ks place (Some key)) p ≡ Some key)) ⊎ ((p ≢ place) × (key_at (slice_set ks place (Some key)) p ≡ key_at ks p)) → IsSome (get t k)
  filled p k e (inl i) =
      let same : key ≡ k = some_key key k (sym i.1 ∙ e) in
      subst (λ j. IsSome (get t j)) same (ap is_some u.changed)
  filled p k e (inr i) =
      let old : key_at ks p ≡ Some k = sym i.1 ∙ e in
      ap is_some (u.others k (not_fresh s t ks key session p k a u old)) ∙ a.filled p k old

  apart : (p q k : ℕ) → key_at (slice_set ks place (Some key)) p ≡ Some k → key_at (slice_set ks place (Some key)) q ≡ Some k
      → ((p ≡ place) × (key_at (slice_set ks place (Some key)) p ≡ Some key)) ⊎ ((p ≢ place) × (key_at (slice_set ks place (Some key)) p ≡ key_at ks p))
      → ((q ≡ place) × (key_at (slice_set ks place (Some key)) q ≡ Some key)) ⊎ ((q ≢ place) × (key_at (slice_set ks place (Some key)) q ≡ key_at ks q)) → p ≡ q
  apart p q k e f (inl i) (inl j) = i.0 ∙ sym j.0
  apart p q k e f (inl i) (inr j) = absurd (not_fresh s t ks key session q k a u (sym j.1 ∙ f) (sym (some_key key k (sym i.1 ∙ e))))
  apart p q k e f (inr i) (inl j) = absurd (not_fresh s t ks key session p k a u (sym i.1 ∙ e) (sym (some_key key k (sym j.1 ∙ f))))
  apart p q k e f (inr i) (inr j) = a.apart p q k (sym i.1 ∙ e) (sym j.1 ∙ f)

-- what lay under a key is taken out
pub record IsTaken (s t : Slab Session) (key : ℕ) : Type 0 where
  pub others : (other : ℕ) → other ≢ key → get t other ≡ get s other
  pub count : slab_len t + 1 ≡ slab_len s
  pub capacity : t.capacity ≡ s.capacity

other_key : (ks : List (Option ℕ)) (place key p k : ℕ) → ((p q key : ℕ) → key_at ks p ≡ Some key → key_at ks q ≡ Some key → p ≡ q) → place < length ks → key_at ks place ≡ Some key
    → key_at (slice_set ks place None) p ≡ Some k → (key_at ks p ≡ Some k) × (k ≢ key)
other_key ks place key p k apart long f e = by_case (set_cases ks place p None None long) where
  by_case : ((p ≡ place) × (key_at (slice_set ks place None) p ≡ None)) ⊎ ((p ≢ place) × (key_at (slice_set ks place None) p ≡ key_at ks p)) → (key_at ks p ≡ Some k) × (k ≢ key)
  by_case (inl i) = let clash : None ≡ Some k = sym i.1 ∙ e in absurd (cc)
  by_case (inr i) =
      let old : key_at ks p ≡ Some k = sym i.1 ∙ e in
      (old, λ same. i.0 (apart p place key (old ∙ ap (λ (n : ℕ). Some n) same) f))

pub take_held : (s t : Slab Session) (ks : List (Option ℕ)) (place key : ℕ) → AreSound s ks → IsTaken s t key → place < 64 → key_at ks place ≡ Some key
    → held t (slice_set ks place None) ≡ slice_set (held s ks) place None
take_held s t ks place key a u h f =
    let long : place < length ks = omega (arith, h, a.long) in
    held_same s t (slice_set ks place None) (λ p k e. u.others k (other_key ks place key p k a.apart long f e).1) ∙ map-set (at_key s) ks place None

pub take_sound : (s t : Slab Session) (ks : List (Option ℕ)) (place key : ℕ) → AreSound s ks → IsTaken s t key → place < 64 → key_at ks place ≡ Some key → AreSound t (slice_set ks place None)
take_sound s t ks place key a u h f = record {
  long = length-set ks place None ∙ a.long;
  filled = λ p k e. let o = other_key ks place key p k a.apart long f e in ap is_some (u.others k o.1) ∙ a.filled p k o.0;
  apart = λ p q k e g. a.apart p q k (other_key ks place key p k a.apart long f e).0 (other_key ks place key q k a.apart long f g).0;
  counted = let n = count_emptied ks place key long f in omega (arith, n, u.count, a.counted);
  room = subst (λ n. 64 ≤ n) (sym u.capacity) a.room;
} where
  long : place < length ks
  long = omega (arith, h, a.long)

-- an empty place stays as it is
pub take_nothing : (s : Slab Session) (ks : List (Option ℕ)) (place : ℕ) → key_at ks place ≡ None → slice_set (held s ks) place None ≡ held s ks
take_nothing s ks place e =
    let none : slice_index_or (held s ks) place None ≡ None = held_at s ks place ∙ ap (at_key s) e in
    subst (λ x. slice_set (held s ks) place x ≡ held s ks) none (set-get_or (held s ks) place None)

no_keys : (n p key : ℕ) → key_at (replicate n None) p ≡ Some key → ⊥
no_keys zero p key e = cc
no_keys (suc n) zero key e = cc
no_keys (suc n) (suc p) key e = no_keys n p key e

pub empty_sound : (s : Slab Session) → s.slots ≡ [] → 64 ≤ s.capacity → AreSound s (replicate 64 None)
empty_sound s e c = record {
  long = refl;
  filled = λ p key f. absurd (no_keys 64 p key f);
  apart = λ p q key f g. absurd (no_keys 64 p key f);
  counted = ap (count_by is_some) e;
  room = c;
}
