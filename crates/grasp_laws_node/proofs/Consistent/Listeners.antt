-- What is listened for stays so, but for what a call takes away.
use Rattle.std.proofs.Common.{◌≡◌, ℕ, Bool, true, false, cond, not, ◌&&◌, bytes_eq, List, [], ◌∷◌, ◌++◌, map, ◌⊎◌, inl, inr, Option, None, Some, IsSome, is_some, option_map, Result, Ok, Err, refl, sym, ap, ◌∙◌, subst}
use Rattle.std.specs.List.{find, filter}
use Rattle.std.proofs.lemmas.Bool.{false≢true, true≢false, and_parts, and_from, and_right}
use Rattle.std.proofs.lemmas.Slice.Eq.{bytes_eq-Decides}
use Rattle.grasp_asa.specs.Answers.{after_register_asa, after_deregister_asa, after_register_objective, after_deregister_objective, marked, after_listen, offering, after_offer, listener_of, names_of}
use Rattle.grasp_asa.specs.Registrations.{Registrations, is_named, is_owned_by, is_of}
use Rattle.grasp_asa.specs.declared.entry.Registered.{Registered}
use Rattle.grasp_cbor.proofs.Facts.Lists.{same_word}
use Rattle.grasp_cbor.specs.DataItem.{DataItem}
use Rattle.grasp_types.specs.declared.refusal.ApiRefused.{ApiRefused}

-- ---- lists

abbrev Finds : (Registered → Bool) → List Registered → Type 0
Finds p xs = is_some (find p xs) ≡ true

found_here : (p : Registered → Bool) (x : Registered) (xs : List Registered) → p x ≡ true → Finds p (x ∷ xs)
found_here p x xs e = rw e refl

found_later : (p : Registered → Bool) (x : Registered) (xs : List Registered) → Finds p xs → Finds p (x ∷ xs)
found_later p x xs f = by_test (p x) where
  by_test : (b : Bool) → is_some (cond b (Some x) (find p xs)) ≡ true
  by_test true = refl
  by_test false = f

found_behind : (p : Registered → Bool) (x : Registered) (xs : List Registered) → p x ≡ false → Finds p (x ∷ xs) → Finds p xs
found_behind p x xs e f = subst (λ (b : Bool). is_some (cond b (Some x) (find p xs)) ≡ true) e f

finds_map : (p q : Registered → Bool) (f : Registered → Registered) (xs : List Registered) → ((x : Registered) → p x ≡ true → q (f x) ≡ true) → Finds p xs → Finds q (map f xs)
finds_map p q f [] g h = absurd (false≢true h)
finds_map p q f (x ∷ xs) g h = by_test (p x) refl (λ k. finds_map p q f xs g k) where
  by_test : (b : Bool) → p x ≡ b → (Finds p xs → Finds q (map f xs)) → Finds q (f x ∷ map f xs)
  by_test true e rest = found_here q (f x) (map f xs) (g x e)
  by_test false e rest = found_later q (f x) (map f xs) (rest (found_behind p x xs e h))

finds_filter : (p keep : Registered → Bool) (xs : List Registered) → ((x : Registered) → p x ≡ true → keep x ≡ true) → Finds p xs → Finds p (filter keep xs)
finds_filter p keep [] g h = absurd (false≢true h)
finds_filter p keep (x ∷ xs) g h = by_test (p x) refl (λ k. finds_filter p keep xs g k) where
  by_kept : (b : Bool) → Finds p (filter keep xs) → Finds p (cond b (x ∷ filter keep xs) (filter keep xs))
  by_kept true f = found_later p x (filter keep xs) f
  by_kept false f = f

  by_test : (b : Bool) → p x ≡ b → (Finds p xs → Finds p (filter keep xs)) → Finds p (cond (keep x) (x ∷ filter keep xs) (filter keep xs))
  by_test true e rest = let kept : keep x ≡ true = g x e in rw kept (found_here p x (filter keep xs) e)
  by_test false e rest = by_kept (keep x) (rest (found_behind p x xs e h))

finds_more : (p : Registered → Bool) (xs ys : List Registered) → Finds p xs → Finds p (xs ++ ys)
finds_more p [] ys h = absurd (false≢true h)
finds_more p (x ∷ xs) ys h = by_test (p x) refl (λ k. finds_more p xs ys k) where
  by_test : (b : Bool) → p x ≡ b → (Finds p xs → Finds p (xs ++ ys)) → Finds p (x ∷ (xs ++ ys))
  by_test true e rest = found_here p x (xs ++ ys) e
  by_test false e rest = found_later p x (xs ++ ys) (rest (found_behind p x xs e h))

-- ---- listeners

abbrev listens : List ℕ → Registered → Bool
listens name o = is_named name o && o.listening

some_owner : (o : Option Registered) → IsSome (option_map (λ (x : Registered). x.owner) o) → is_some o ≡ true
some_owner None e = e
some_owner (Some x) e = refl

owner_some : (o : Option Registered) → is_some o ≡ true → IsSome (option_map (λ (x : Registered). x.owner) o)
owner_some None e = e
owner_some (Some x) e = refl

listener_finds : (r : Registrations) (name : List ℕ) → IsSome (listener_of r name) → Finds (listens name) r.objectives
listener_finds r name e = some_owner (find (λ o. is_named name o && o.listening) r.objectives) e

finds_listener : (r : Registrations) (name : List ℕ) → Finds (listens name) r.objectives → IsSome (listener_of r name)
finds_listener r name e = owner_some (find (λ o. is_named name o && o.listening) r.objectives) e

same_name : (a b : List ℕ) → bytes_eq a b ≡ true → a ≡ b
same_name a b e = (bytes_eq-Decides a b).0 e

-- an objective of one name hasn't another
other_name : (name other : List ℕ) (o : Registered) → bytes_eq other name ≡ false → listens other o ≡ true → is_named name o ≡ false
other_name name other o differ e = by_test (is_named name o) refl where
  by_test : (b : Bool) → is_named name o ≡ b → b ≡ false
  by_test true f =
      let one : o.name ≡ other = same_name o.name other (and_parts (is_named other o) o.listening e).0 in
      absurd (true≢false (sym (same_word other name (sym one ∙ same_name o.name name f)) ∙ differ))
  by_test false f = refl

-- ---- calls

pub asa_registered : (r : Registrations) (agent other : List ℕ) (result : Result ℕ ApiRefused) → IsSome (listener_of r other) → IsSome (listener_of (after_register_asa r agent result) other)
asa_registered r agent other (Ok asa) e = e
asa_registered r agent other (Err refused) e = e

pub objective_registered : (r : Registrations) (asa : ℕ) (name : List ℕ) (flags : ℕ) (other : List ℕ) (result : Result (Unit {0}) ApiRefused) → IsSome (listener_of r other) → IsSome (listener_of (after_register_objective r asa name flags result) other)
objective_registered r asa name flags other (Ok done) e =
    finds_listener (after_register_objective r asa name flags (Ok done)) other (finds_more (listens other) r.objectives _ (listener_finds r other e))
objective_registered r asa name flags other (Err refused) e = e

pub objective_deregistered : (r : Registrations) (asa : ℕ) (name other : List ℕ) (result : Result (Unit {0}) ApiRefused) → bytes_eq other name ≡ false → IsSome (listener_of r other)
    → IsSome (listener_of (after_deregister_objective r asa name result) other)
objective_deregistered r asa name other (Ok done) differ e =
    finds_listener (after_deregister_objective r asa name (Ok done)) other
    (finds_filter (listens other) (λ o. not (is_of asa name o)) r.objectives (λ o f. ap not (and_right (is_owned_by asa o) (is_named name o) (other_name name other o differ f))) (listener_finds r other e))
objective_deregistered r asa name other (Err refused) differ e = e

-- a mark that is set
mark_set : (name other : List ℕ) (o : Registered) → listens other o ≡ true → listens other (marked name true o) ≡ true
mark_set name other o e = by_test (is_named name o) where
  by_test : (b : Bool) → listens other (cond b (record o { listening = true }) o) ≡ true
  by_test true = and_from (is_named other o) true (and_parts (is_named other o) o.listening e).0 refl
  by_test false = e

mark_other : (name other : List ℕ) (o : Registered) → bytes_eq other name ≡ false → listens other o ≡ true → listens other (marked name false o) ≡ true
mark_other name other o differ e = let no : is_named name o ≡ false = other_name name other o differ e in rw no e

pub listening_set : (r : Registrations) (name other : List ℕ) (result : Result (Unit {0}) ApiRefused) → IsSome (listener_of r other) → IsSome (listener_of (after_listen r name true result) other)
listening_set r name other (Ok done) e =
    finds_listener (after_listen r name true (Ok done)) other (finds_map (listens other) (listens other) (marked name true) r.objectives (mark_set name other) (listener_finds r other e))
listening_set r name other (Err refused) e = e

pub listening_other : (r : Registrations) (name other : List ℕ) (result : Result (Unit {0}) ApiRefused) → bytes_eq other name ≡ false → IsSome (listener_of r other) → IsSome (listener_of (after_listen r name false result) other)
listening_other r name other (Ok done) differ e =
    finds_listener (after_listen r name false (Ok done)) other
    (finds_map (listens other) (listens other) (marked name false) r.objectives (λ o f. mark_other name other o differ f) (listener_finds r other e))
listening_other r name other (Err refused) differ e = e

offer_same : (name : List ℕ) (value : Option DataItem) (other : List ℕ) (o : Registered) → listens other o ≡ true → listens other (offering name value o) ≡ true
offer_same name value other o e = by_test (is_named name o) where
  by_test : (b : Bool) → listens other (cond b (record o { offered = value }) o) ≡ true
  by_test true = e
  by_test false = e

pub offered_same : (r : Registrations) (name : List ℕ) (value : Option DataItem) (other : List ℕ) (result : Result (Unit {0}) ApiRefused) → IsSome (listener_of r other) → IsSome (listener_of (after_offer r name value result) other)
offered_same r name value other (Ok done) e =
    finds_listener (after_offer r name value (Ok done)) other (finds_map (listens other) (listens other) (offering name value) r.objectives (offer_same name value other) (listener_finds r other e))
offered_same r name value other (Err refused) e = e

-- ---- an agent leaves

abbrev pub IsIn : List ℕ → List (List ℕ) → Type 0
IsIn name [] = ⊥
IsIn name (n ∷ ns) = (n ≡ name) ⊎ IsIn name ns

abbrev names : ℕ → List Registered → List (List ℕ)
names asa xs = map (λ (o : Registered). o.name) (filter (is_owned_by asa) xs)

abbrev others : ℕ → List Registered → List Registered
others asa xs = filter (λ o. not (is_owned_by asa o)) xs

in_later : (asa : ℕ) (x : Registered) (xs : List Registered) (name : List ℕ) → IsIn name (names asa xs) → IsIn name (names asa (x ∷ xs))
in_later asa x xs name i = by_test (is_owned_by asa x) where
  by_test : (b : Bool) → IsIn name (map (λ (o : Registered). o.name) (cond b (x ∷ filter (is_owned_by asa) xs) (filter (is_owned_by asa) xs)))
  by_test true = inr i
  by_test false = i

finds_or_named : (asa : ℕ) (other : List ℕ) (xs : List Registered) → Finds (listens other) xs → Finds (listens other) (others asa xs) ⊎ IsIn other (names asa xs)
finds_or_named asa other [] h = absurd (false≢true h)
finds_or_named asa other (x ∷ xs) h = by_test (listens other x) refl (λ k. finds_or_named asa other xs k) where
  by_owned : (b : Bool) → is_owned_by asa x ≡ b → listens other x ≡ true → Finds (listens other) (others asa (x ∷ xs)) ⊎ IsIn other (names asa (x ∷ xs))
  by_owned true o e =
      inr (rw o (inl (same_name x.name other (and_parts (is_named other x) x.listening e).0)))
  by_owned false o e = inl (rw o (found_here (listens other) x (others asa xs) e))

  by_kept : (b : Bool) → Finds (listens other) (others asa xs) → Finds (listens other) (cond b (x ∷ others asa xs) (others asa xs))
  by_kept true f = found_later (listens other) x (others asa xs) f
  by_kept false f = f

  by_rest : Finds (listens other) (others asa xs) ⊎ IsIn other (names asa xs) → Finds (listens other) (others asa (x ∷ xs)) ⊎ IsIn other (names asa (x ∷ xs))
  by_rest (inl f) = inl (by_kept (not (is_owned_by asa x)) f)
  by_rest (inr i) = inr (in_later asa x xs other i)

  by_test : (b : Bool) → listens other x ≡ b → (Finds (listens other) xs → Finds (listens other) (others asa xs) ⊎ IsIn other (names asa xs)) → Finds (listens other) (others asa (x ∷ xs)) ⊎ IsIn other (names asa (x ∷ xs))
  by_test true e rest = by_owned (is_owned_by asa x) refl e
  by_test false e rest = by_rest (rest (found_behind (listens other) x xs e h))

pub agent_left : (r : Registrations) (asa : ℕ) (other : List ℕ) (result : Result (Unit {0}) ApiRefused) → IsSome (listener_of r other)
    → IsSome (listener_of (after_deregister_asa r asa result) other) ⊎ IsIn other (names_of r asa)
agent_left r asa other (Ok done) e = by_case (finds_or_named asa other r.objectives (listener_finds r other e)) where
  by_case : Finds (listens other) (others asa r.objectives) ⊎ IsIn other (names asa r.objectives) → IsSome (listener_of (after_deregister_asa r asa (Ok done)) other) ⊎ IsIn other (names_of r asa)
  by_case (inl f) = inl (finds_listener (after_deregister_asa r asa (Ok done)) other f)
  by_case (inr i) = inr i
agent_left r asa other (Err refused) e = inl e
