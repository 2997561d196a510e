-- The stream of a number, and the member that listens at a locator.
use Rattle.std.proofs.Common.{◌≡◌, ◌≢◌, refl, sym, ap, ◌∙◌, subst, arith, ℕ, zero, suc, ◌+◌, ◌-◌, ◌≤◌, ◌<◌, nat_lt, Bool, true, false, cond, List, [], ◌∷◌, length, slice_get, find, get_or, Option, None, Some}
use Rattle.std.proofs.lemmas.Bool.{true≢false, ltb-true, ltb-false}
use Rattle.std.proofs.lemmas.List.Quantifiers.{position-Some}
use Rattle.std.proofs.lemmas.Option.{none-some, slice_get-get_or, slice_get_within, get_or_from_slice_get, same_Some}
use Rattle.std.specs.List.{position, position_or_len}
use Rattle.grasp_laws_delivery.proofs.FromReady.{every_at}
use Rattle.grasp_laws_delivery.proofs.OnePlace.{one_passing}
use Rattle.grasp_laws_delivery.specs.Ready.{HasGoodEnds, HasGoodNumber, StreamsAreReady}
use Rattle.grasp_laws_network.proofs.Appended.{numbered_get, get_numbered}
use Rattle.grasp_laws_network.proofs.Here.{numbered_within}
use Rattle.grasp_model_network.proofs.Facts.{number_is, number_passes}
use Rattle.grasp_model_network.specs.GoodSetting.{IsGoodSetting}
use Rattle.grasp_model_network.specs.Runs.{IsReached}
use Rattle.grasp_model_network.specs.Setting.{Member, Setting, counted_from_1, is_at, member_at, numbered}
use Rattle.grasp_model_network.specs.Streams.{StreamState, is_number, stream_numbered}
use Rattle.grasp_model_network.specs.World.{WorldState}
use Rattle.grasp_types.proofs.Same.{same_locator_decides}
use Rattle.grasp_types.specs.declared.address.Locator.{Locator}
use Rattle.grasp_laws_events.specs.Steps.{IsTalkNumbered}

-- ---- the stream of a number

-- what is found stands in the list, and passes
pub record IsFound {A : Type 0} (p : A → Bool) (xs : List A) (x : A) : Type 0 where
  pub place : ℕ
  pub stands : slice_get xs place ≡ Some x
  pub passes : p x ≡ true

pub found_there : {A : Type 0} (p : A → Bool) (xs : List A) (x : A) → find p xs ≡ Some x → IsFound p xs x
found_there p [] x e = absurd (none-some x e)
found_there {A} p (y ∷ ys) x e = by (p y) refl e (found_there p ys x) where
  behind : IsFound p ys x → IsFound p (y ∷ ys) x
  behind f = record { place = suc f.place; stands = f.stands; passes = f.passes }

  by : (b : Bool) → p y ≡ b → cond b (Some y) (find p ys) ≡ Some x → (find p ys ≡ Some x → IsFound p ys x) → IsFound p (y ∷ ys) x
  by true is f more = record { place = 0; stands = f; passes = ap p (sym (same_Some y x f)) ∙ is }
  by false is f more = behind (more f)

pub some_found : {A : Type 0} (p : A → Bool) (xs : List A) (i : ℕ) (x : A) → slice_get xs i ≡ Some x → p x ≡ true → (y : A) × (find p xs ≡ Some y)
some_found p [] i x e is = absurd (none-some x e)
some_found {A} p (y ∷ ys) i x e is = by (p y) refl i e (λ j g. some_found p ys j x g is) where
  by : (b : Bool) → p y ≡ b → (i : ℕ) → slice_get (y ∷ ys) i ≡ Some x → ((j : ℕ) → slice_get ys j ≡ Some x → (z : A) × (find p ys ≡ Some z))
      → (z : A) × (find p (y ∷ ys) ≡ Some z)
  by true f i g more = (y, rw f refl)
  by false f zero g more = absurd (true≢false (sym is ∙ (ap p (sym (same_Some y x g)) ∙ f)))
  by false f (suc i) g more = let rest = more i g in (rest.0, rw f rest.1)

pub has_number : (w : WorldState) (k : ℕ) (t : StreamState) → stream_numbered w.streams k ≡ Some t → IsTalkNumbered w k t
has_number w k t e = by (found_there (λ (x : StreamState). is_number k x.number) w.streams t e) where
  by : IsFound (λ (x : StreamState). is_number k x.number) w.streams t → IsTalkNumbered w k t
  by f = record { place = f.place; stands = f.stands; number = number_is k t.number f.passes }

module _ (ready : StreamsAreReady) (s : Setting) (w : WorldState) (r : IsReached s w) where
  -- two streams of one number are the same
  pub one_numbered : (k i j : ℕ) (t u : StreamState) → slice_get w.streams i ≡ Some t → t.number ≡ Some k → slice_get w.streams j ≡ Some u → u.number ≡ Some k → t ≡ u
  one_numbered k i j t u a f b g = one_passing (λ (x : StreamState). is_number k x.number) w.streams i j t u (ready.once s w r k good.0 good.1) a (number_passes k t.number f) b (number_passes k u.number g) where
    good : HasGoodNumber w.dials (Some k)
    good = subst (HasGoodNumber w.dials) f (every_at (λ (x : StreamState). HasGoodEnds s (length w.seats) w.dials x.near x.number x.far) w.streams (ready.ends s w r) i t a).dialled

  pub numbered_talk : (k : ℕ) (t : StreamState) → IsTalkNumbered w k t → stream_numbered w.streams k ≡ Some t
  numbered_talk k t h = by (some_found (λ (x : StreamState). is_number k x.number) w.streams h.place t h.stands (number_passes k t.number h.number)) where
    by : (u : StreamState) × (find (λ (x : StreamState). is_number k x.number) w.streams ≡ Some u) → stream_numbered w.streams k ≡ Some t
    by (u, found) = found ∙ ap (λ x. Some x) (same (has_number w k u found)) where
      same : IsTalkNumbered w k u → u ≡ t
      same g = one_numbered k g.place h.place u t g.stands g.number h.stands h.number

-- ---- the member at a locator

first_within : (p : Member → Bool) (xs : List Member) (i : ℕ) (x : Member) → slice_get xs i ≡ Some x → p x ≡ true → position_or_len p xs < length xs
first_within p [] i x e is = absurd (none-some x e)
first_within p (y ∷ ys) i x e is = by (p y) refl i e (λ j g. first_within p ys j x g is) where
  by : (b : Bool) → p y ≡ b → (i : ℕ) → slice_get (y ∷ ys) i ≡ Some x → ((j : ℕ) → slice_get ys j ≡ Some x → position_or_len p ys < length ys)
      → position_or_len p (y ∷ ys) < length (y ∷ ys)
  by true f i g more = rw f (omega arith)
  by false f zero g more = absurd (true≢false (sym is ∙ (ap p (sym (same_Some y x g)) ∙ f)))
  by false f (suc i) g more = rw f (let h : position_or_len p ys < length ys = more i g in omega arith)

not_within : (a b : ℕ) → a < b → nat_lt a b ≡ false → ⊥
not_within a b l e = let m : b ≤ a = ltb-false a b e in omega (arith, l, m)

module _ (s : Setting) (good : IsGoodSetting s) where
  -- two members at one locator are one
  one_there : (i j : ℕ) (m l : Member) → slice_get s.members i ≡ Some m → slice_get s.members j ≡ Some l → m.plan.locator ≡ l.plan.locator → i ≡ j
  one_there i j m l a b same = by (nat_lt i j) refl (nat_lt j i) refl where
    differ : (i j : ℕ) (m l : Member) → slice_get s.members i ≡ Some m → slice_get s.members j ≡ Some l → i < j → m.plan.locator ≢ l.plan.locator
    differ i j m l a b less e = (good.different i j m less (slice_get_within s.members j l b)).locators
        (ap (λ (x : Member). x.plan.locator) (get_or_from_slice_get s.members i m m a) ∙ (e ∙ ap (λ (x : Member). x.plan.locator) (sym (get_or_from_slice_get s.members j l m b))))

    by : (x : Bool) → nat_lt i j ≡ x → (y : Bool) → nat_lt j i ≡ y → i ≡ j
    by true f y g = absurd (differ i j m l a b (ltb-true i j f) same)
    by false f true g = absurd (differ j i l m b a (ltb-true j i g) (sym same))
    by false f false g = let p : j ≤ i = ltb-false i j f in let q : i ≤ j = ltb-false j i g in omega (arith, p, q)

  pub member_found : (node : ℕ) (m : Member) (to : Locator) → numbered s.members node ≡ Some m → m.plan.locator ≡ to → member_at s to ≡ Some node
  member_found node m to found listens = by (position (is_at to) s.members) refl where
    at : slice_get s.members (node - 1) ≡ Some m
    at = numbered_get s.members node m found

    passes : is_at to m ≡ true
    passes = (same_locator_decides to m.plan.locator).1 (sym listens)

    by_test : (b : Bool) → nat_lt (position_or_len (is_at to) s.members) (length s.members) ≡ b → cond b (Some (position_or_len (is_at to) s.members)) None ≡ None → ⊥
    by_test true f e = none-some (position_or_len (is_at to) s.members) (sym e)
    by_test false f e = not_within (position_or_len (is_at to) s.members) (length s.members) (first_within (is_at to) s.members (node - 1) m at passes) f

    by : (o : Option ℕ) → position (is_at to) s.members ≡ o → member_at s to ≡ Some node
    by None is = absurd (by_test (nat_lt (position_or_len (is_at to) s.members) (length s.members)) refl is)
    by (Some i) is = ap counted_from_1 is ∙ ap (λ k. Some k) (let e : i ≡ node - 1 = one in let least : 1 ≤ node = (numbered_within s.members node m found).least in omega arith) where
      p : (i < length s.members) × (is_at to (get_or s.members i m) ≡ true) × ((k : ℕ) → k < i → is_at to (get_or s.members k m) ≡ false)
      p = position-Some (is_at to) s.members i m is

      there : slice_get s.members i ≡ Some (get_or s.members i m)
      there = slice_get-get_or s.members i m p.0

      one : i ≡ node - 1
      one = one_there i (node - 1) (get_or s.members i m) m there at (sym ((same_locator_decides to (get_or s.members i m).plan.locator).0 p.1) ∙ sym listens)

-- whoever is found at a locator listens there
pub record Listens (s : Setting) (node : ℕ) (to : Locator) : Type 0 where
  pub member : Member
  pub found : numbered s.members node ≡ Some member
  pub listens : member.plan.locator ≡ to

pub listens_there : (s : Setting) (node : ℕ) (d : Member) (to : Locator) → member_at s to ≡ Some node → Listens s node to
listens_there s node d to e = by (position (is_at to) s.members) refl e where
  by : (o : Option ℕ) → position (is_at to) s.members ≡ o → counted_from_1 o ≡ Some node → Listens s node to
  by None is f = absurd (none-some node f)
  by (Some i) is f = record {
    member = get_or s.members i d;
    found = get_numbered s.members node (Some (get_or s.members i d)) (let n : i + 1 ≡ node = next in omega arith)
        (ap (slice_get s.members) (let n : i + 1 ≡ node = next in omega arith) ∙ slice_get-get_or s.members i d p.0);
    listens = sym ((same_locator_decides to (get_or s.members i d).plan.locator).0 p.1);
  } where
    next : i + 1 ≡ node
    next = same_Some (i + 1) node f

    p : (i < length s.members) × (is_at to (get_or s.members i d) ≡ true) × ((k : ℕ) → k < i → is_at to (get_or s.members k d) ≡ false)
    p = position-Some (is_at to) s.members i d is
