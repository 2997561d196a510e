-- What becomes of the one objective of an agent among those that are registered.
use Rattle.std.proofs.Common.{◌≡◌, ◌≢◌, refl, sym, ap, ◌∙◌, subst, arith, ℕ, suc, ◌&&◌, ◌||◌, Bool, true, false, cond, List, [], ◌∷◌, map, is_some, Option, Some, None, option_map, find, All, AllPairs, Result, Ok, Err}
use Rattle.std.specs.List.{list_any}
use Rattle.std.proofs.lemmas.Bool.{false≢true, eqb-true}
use Rattle.grasp_asa.proofs.Facts.{name_means}
use Rattle.grasp_asa.specs.declared.entry.Registered.{Registered}
use Rattle.grasp_asa.specs.Answers.{listener_of, marked, after_listen}
use Rattle.grasp_laws_owned.specs.Serving.{Serves}
use Rattle.grasp_laws_tables.specs.Laws.{IsAsBefore}
use Rattle.grasp_asa.specs.Registrations.{Registrations, IsRegistry, is_numbered, is_named, is_owned_by, is_of, is_registered}
use Rattle.grasp_cbor.proofs.Facts.Bools.{and_second}
use Rattle.grasp_model_node.specs.Node.{NodeState}
use Rattle.grasp_model_node.specs.Tests.{owned_flags}
use Rattle.std.proofs.lemmas.Option.{none-some, same_Some}
use Rattle.grasp_types.specs.declared.refusal.ApiRefused.{ApiRefused}

-- the agent is registered, and its objective of this name, with these flags, is listened for
pub record Has (me : ℕ) (name : List ℕ) (bits : ℕ) (r : Registrations) : Type 0 where
  pub registered : is_registered r me ≡ true
  pub objective : Registered
  pub found : find (is_of me name) r.objectives ≡ Some objective
  pub flags : objective.flags ≡ bits
  pub listening : objective.listening ≡ true

-- ---- lists in which something is found

any_found : {A : Type 0} (p : A → Bool) (xs : List A) → list_any p xs ≡ is_some (find p xs)
any_found p [] = refl
any_found p (x ∷ xs) = by_test (p x) (any_found p xs) where
  by_test : (b : Bool) → list_any p xs ≡ is_some (find p xs) → (b || list_any p xs) ≡ is_some (cond b (Some x) (find p xs))
  by_test true e = refl
  by_test false e = e

-- a change that no test sees
find_mapped : {A : Type 0} (p : A → Bool) (f : A → A) (xs : List A) → ((x : A) → p (f x) ≡ p x) → find p (map f xs) ≡ option_map f (find p xs)
find_mapped p f [] same = refl
find_mapped p f (x ∷ xs) same = ap (λ b. cond b (Some (f x)) (find p (map f xs))) (same x) ∙ by_test (p x) (find_mapped p f xs same) where
  by_test : (b : Bool) → find p (map f xs) ≡ option_map f (find p xs) → cond b (Some (f x)) (find p (map f xs)) ≡ option_map f (cond b (Some x) (find p xs))
  by_test true e = refl
  by_test false e = e

-- ---- it is marked as listened for

mark_seen : (asa : ℕ) (name : List ℕ) (o : Registered) → is_of asa name (marked name true o) ≡ is_of asa name o
mark_seen asa name o = by_test (is_named name o) where
  by_test : (b : Bool) → is_of asa name (cond b (record o { listening = true }) o) ≡ is_of asa name o
  by_test true = refl
  by_test false = refl

mark_flags : (name : List ℕ) (o : Registered) → (marked name true o).flags ≡ o.flags
mark_flags name o = by_test (is_named name o) where
  by_test : (b : Bool) → (cond b (record o { listening = true }) o).flags ≡ o.flags
  by_test true = refl
  by_test false = refl

mark_listens : (name : List ℕ) (o : Registered) → o.listening ≡ true → (marked name true o).listening ≡ true
mark_listens name o e = by_test (is_named name o) where
  by_test : (b : Bool) → (cond b (record o { listening = true }) o).listening ≡ true
  by_test true = refl
  by_test false = e

-- ---- the name is registered once

module _ {A : Type 0} (p : A → Bool) where
  pub found_passes : (xs : List A) (y : A) → find p xs ≡ Some y → p y ≡ true
  found_passes [] y e = absurd (none-some y e)
  found_passes (x ∷ xs) y e = by_test (p x) refl e (λ f. found_passes xs y f) where
    by_test : (b : Bool) → p x ≡ b → cond b (Some x) (find p xs) ≡ Some y → (find p xs ≡ Some y → p y ≡ true) → p y ≡ true
    by_test true t f rest = subst (λ z. p z ≡ true) (same_Some x y f) t
    by_test false t f rest = rest f

  found_all : (P : A → Type 0) (xs : List A) (y : A) → All P xs → find p xs ≡ Some y → P y
  found_all P [] y all e = absurd (none-some y e)
  found_all P (x ∷ xs) y all e = by_test (p x) e (λ f. found_all P xs y (λ k d h. all (suc k) d (omega (arith, h))) f) where
    by_test : (b : Bool) → cond b (Some x) (find p xs) ≡ Some y → (find p xs ≡ Some y → P y) → P y
    by_test true f rest = subst P (same_Some x y f) (all 0 x (omega arith))
    by_test false f rest = rest f

abbrev pub Named : List ℕ → (Registered → Bool) → Type 0
Named name p = (o : Registered) → p o ≡ true → o.name ≡ name

-- what one test of this name finds another finds too, where it passes
found_same : (name : List ℕ) (p q : Registered → Bool) (xs : List Registered) (y : Registered) → AllPairs (λ (o u : Registered). o.name ≢ u.name) xs → Named name p → Named name q
    → find p xs ≡ Some y → q y ≡ true → find q xs ≡ Some y
found_same name p q [] y apart np nq e t = absurd (none-some y e)
found_same name p q (x ∷ xs) y apart np nq e t = by_first (p x) refl e (λ f. found_same name p q xs y (λ i j d a b. apart (suc i) (suc j) d (omega (arith, a)) (omega (arith, b))) np nq f t) where
  by_second : find p xs ≡ Some y → find q xs ≡ Some y → (b : Bool) → q x ≡ b → cond b (Some x) (find q xs) ≡ Some y
  by_second f rest true u =
      absurd (found_all p (λ (o : Registered). x.name ≢ o.name) xs y (λ k d h. apart 0 (suc k) d (omega arith) (omega (arith, h))) f (nq x u ∙ sym (np y (found_passes p xs y f))))
  by_second f rest false u = rest

  by_first : (b : Bool) → p x ≡ b → cond b (Some x) (find p xs) ≡ Some y → (find p xs ≡ Some y → find q xs ≡ Some y) → find q (x ∷ xs) ≡ Some y
  by_first true u f rest = ap (λ b. cond b (Some x) (find q xs)) (ap q (same_Some x y f) ∙ t) ∙ f
  by_first false u f rest = by_second f (rest f) (q x) refl

-- ---- tests of names

and_first : (a b : Bool) → (a && b) ≡ true → a ≡ true
and_first true b e = refl
and_first false b e = absurd (false≢true e)

of_named : (asa : ℕ) (name : List ℕ) → Named name (is_of asa name)
of_named asa name o e = name_means name o (and_second (is_owned_by asa o) (is_named name o) e)

of_owner : (asa : ℕ) (name : List ℕ) (o : Registered) → is_of asa name o ≡ true → o.owner ≡ asa
of_owner asa name o e = eqb-true o.owner asa (and_first (is_owned_by asa o) (is_named name o) e)

named_named : (name : List ℕ) → Named name (is_named name)
named_named name o e = name_means name o e

listens_named : (name : List ℕ) → Named name (λ o. is_named name o && o.listening)
listens_named name o e = name_means name o (and_first (is_named name o) o.listening e)

-- the objective has this name and is listened for
abbrev is_heard : List ℕ → Registered → Bool
is_heard name o = is_named name o && o.listening

-- ---- what becomes of it

module _ (me : ℕ) (name : List ℕ) (bits : ℕ) where
  abbrev HasIt : Registrations → Type 0
  HasIt r = Has me name bits r

  -- what others do
  pub as_before : (r s : Registrations) → IsAsBefore me r s → HasIt r → HasIt s
  as_before r s b h = record {
    registered = any_found (is_numbered me) s.agents ∙ (ap is_some b.agent ∙ (sym (any_found (is_numbered me) r.agents) ∙ h.registered));
    objective = h.objective;
    found = b.objective name ∙ h.found;
    flags = h.flags;
    listening = h.listening;
  }

  -- it is listened for again
  pub listened_again : (r : Registrations) (result : Result (Unit {0}) ApiRefused) → HasIt r → HasIt (after_listen r name true result)
  listened_again r (Ok done) h = record {
    registered = h.registered;
    objective = marked name true h.objective;
    found = find_mapped (is_of me name) (marked name true) r.objectives (mark_seen me name) ∙ ap (option_map (marked name true)) h.found;
    flags = mark_flags name h.objective ∙ h.flags;
    listening = mark_listens name h.objective h.listening;
  }
  listened_again r (Err refused) h = h

  -- ---- what that says

  module _ (n : NodeState) (is : IsRegistry n.registrations) where
    module _ (h : HasIt n.registrations) where
      passes : is_of me name h.objective ≡ true
      passes = found_passes (is_of me name) n.registrations.objectives h.objective h.found

      named : is_named name h.objective ≡ true
      named = and_second (is_owned_by me h.objective) (is_named name h.objective) passes

      has_flags : owned_flags n me name ≡ Some bits
      has_flags = ap (option_map (λ (o : Registered). o.flags)) h.found ∙ ap (λ (k : ℕ). Some k) h.flags

      has_listener : listener_of n.registrations name ≡ Some me
      has_listener =
          ap (option_map (λ (o : Registered). o.owner))
          (found_same name (is_of me name) (λ o. is_named name o && o.listening) n.registrations.objectives h.objective is.objective_names (of_named me name) (listens_named name) h.found
          (ap (λ b. b && h.objective.listening) named ∙ h.listening))
          ∙ ap (λ (k : ℕ). Some k) (of_owner me name h.objective passes)

      -- whoever has an objective of this name is the agent
      one_owner : (asa : ℕ) (o : Registered) → find (is_of asa name) n.registrations.objectives ≡ Some o → asa ≡ me
      one_owner asa o e =
          let p : is_of asa name o ≡ true = found_passes (is_of asa name) n.registrations.objectives o e in
          let a : find (is_named name) n.registrations.objectives ≡ Some o =
          found_same name (is_of asa name) (is_named name) n.registrations.objectives o is.objective_names (of_named asa name) (named_named name) e (and_second (is_owned_by asa o) (is_named name o) p) in
          let b : find (is_named name) n.registrations.objectives ≡ Some h.objective =
          found_same name (is_of me name) (is_named name) n.registrations.objectives h.objective is.objective_names (of_named me name) (named_named name) h.found named in
          let same : o ≡ h.objective = same_Some o h.objective (sym a ∙ b) in
          sym (of_owner asa name o p) ∙ (ap (λ (u : Registered). u.owner) same ∙ of_owner me name h.objective passes)

      pub no_other : (asa : ℕ) → asa ≢ me → owned_flags n asa name ≡ None
      no_other asa other = by_found (find (is_of asa name) n.registrations.objectives) refl where
        by_found : (o : Option Registered) → find (is_of asa name) n.registrations.objectives ≡ o → option_map (λ (o : Registered). o.flags) o ≡ None
        by_found None e = refl
        by_found (Some o) e = absurd (other (one_owner asa o e))

      pub serves : Serves me name bits n
      serves = record { registered = h.registered; flags = has_flags; listens = has_listener; alone = no_other }

    -- an objective of the agent that is listened for is the one of this name
    pub has : Serves me name bits n → HasIt n.registrations
    has s = by_found (find (is_of me name) n.registrations.objectives) refl s.flags where
      listens : (o : Registered) → find (is_of me name) n.registrations.objectives ≡ Some o → (u : Option Registered) → find (is_heard name) n.registrations.objectives ≡ u → option_map (λ (o : Registered). o.owner) u ≡ Some me → o.listening ≡ true
      listens o e None f g = absurd (none-some me g)
      listens o e (Some u) f g =
          let p : (is_named name u && u.listening) ≡ true = found_passes (is_heard name) n.registrations.objectives u f in
          let q : is_of me name o ≡ true = found_passes (is_of me name) n.registrations.objectives o e in
          let a : find (is_named name) n.registrations.objectives ≡ Some o =
          found_same name (is_of me name) (is_named name) n.registrations.objectives o is.objective_names (of_named me name) (named_named name) e (and_second (is_owned_by me o) (is_named name o) q) in
          let b : find (is_named name) n.registrations.objectives ≡ Some u =
          found_same name (is_heard name) (is_named name) n.registrations.objectives u is.objective_names (listens_named name) (named_named name) f (and_first (is_named name u) u.listening p) in
          ap (λ (v : Registered). v.listening) (same_Some o u (sym a ∙ b)) ∙ and_second (is_named name u) u.listening p

      by_found : (o : Option Registered) → find (is_of me name) n.registrations.objectives ≡ o → option_map (λ (o : Registered). o.flags) o ≡ Some bits → HasIt n.registrations
      by_found None e f = absurd (none-some bits f)
      by_found (Some o) e f = record {
        registered = s.registered;
        objective = o;
        found = e;
        flags = same_Some o.flags bits f;
        listening = listens o e (find (is_heard name) n.registrations.objectives) refl s.listens;
      }
