-- What the look-ups of a registry say of what is registered.
use Rattle.std.proofs.Common.{zero, suc, ◌≡◌, ◌≢◌, ℕ, Bool, true, false, cond, ◌&&◌, List, [], ◌∷◌, map, filter, get_or, Option, Some, None, ◌⊎◌, inl, inr, refl, sym, ap, ◌∙◌, true≢false, arith, eq-eqb}
use Rattle.std.proofs.lemmas.Bool.{and_parts}
use Rattle.std.specs.Prelude.{Any, Contains, AllPairs, find, option_map}
use Rattle.std.proofs.lemmas.Slice.Eq.{bytes_eq-Decides}
use Rattle.grasp_flood.specs.Laws.{IsPartOf}
use Rattle.grasp_asa.proofs.Facts.{name_means}
use Rattle.grasp_asa.specs.declared.entry.Registered.{Registered}
use Rattle.grasp_asa.specs.Registrations.{Registrations, IsRegistry, is_named, is_owned_by}
use Rattle.grasp_asa.specs.Answers.{flags_registered, listener_of, value_offered, offer_of}
use Rattle.grasp_laws_tables.specs.Registrations.{FlagsAreRegistered, ListenersAreRegistered, OffersAreRegistered, LookUpsAreRegistered, NamesAreRegistered}
use Rattle.grasp_laws_tables.proofs.Lists.{any_here, any_later, any_cases, any_none, any_weaker, any_filter, found_one}

-- What is found

module _ (name : List ℕ) (p : Registered → Bool) (means : (o : Registered) → p o ≡ true → o.name ≡ name) where
  -- where no name is there twice, the one that passes is found
  found_once : (os : List Registered) → AllPairs (λ o q. o.name ≢ q.name) os → (x : Registered) → Any (λ o. (o ≡ x) × (p o ≡ true)) os → find p os ≡ Some x
  found_once [] apart x a = absurd (any_none (λ o. (o ≡ x) × (p o ≡ true)) a)
  found_once (o ∷ os) apart x a =
      by (p o) refl (any_cases (λ o. (o ≡ x) × (p o ≡ true)) o os a) (found_once os (λ i j d before h. apart (suc i) (suc j) d (omega arith) (omega arith)) x)
    where
      later : (o.name ≡ name) → Any (λ q. (q ≡ x) × (p q ≡ true)) os → ⊥
      later same (k, q, h, e, r) =
          let there : (get_or os k q).name ≡ name = ap (λ z. z.name) e ∙ means q r.1 in
          apart 0 (suc k) q (omega arith) (omega (arith, h)) (same ∙ sym there)

      by : (b : Bool) → p o ≡ b → ((o ≡ x) × (p o ≡ true)) ⊎ Any (λ q. (q ≡ x) × (p q ≡ true)) os
          → (Any (λ q. (q ≡ x) × (p q ≡ true)) os → find p os ≡ Some x) → cond b (Some o) (find p os) ≡ Some x
      by true e (inl h) rest = ap Some h.0
      by true e (inr h) rest = absurd (later (means o e) h)
      by false e (inl h) rest = absurd (true≢false (sym h.1 ∙ e))
      by false e (inr h) rest = rest h

-- Names

named : (name : List ℕ) (o : Registered) → o.name ≡ name → is_named name o ≡ true
named name o e = (bytes_eq-Decides o.name name).1 e

-- Flags

flags_say : (r : Registrations) → IsRegistry r → FlagsAreRegistered r
flags_say r is name flags = (forth (find (is_named name) r.objectives) refl, back)
  where
    forth : (one : Option Registered) → find (is_named name) r.objectives ≡ one → option_map (λ o. o.flags) one ≡ Some flags
        → Any (λ o. (o.name ≡ name) × (o.flags ≡ flags)) r.objectives
    forth None e s = absurd (cc)
    forth (Some x) e s =
        let same : x.flags ≡ flags = cc in
        any_weaker (λ o. (o ≡ x) × (is_named name o ≡ true)) (λ o. (o.name ≡ name) × (o.flags ≡ flags))
        (λ o h. (name_means name o h.1, ap (λ q. q.flags) h.0 ∙ same)) r.objectives (found_one (is_named name) r.objectives x e)

    back : Any (λ o. (o.name ≡ name) × (o.flags ≡ flags)) r.objectives → flags_registered r name ≡ Some flags
    back (k, x, h, e, q) =
        ap (option_map (λ o. o.flags)) (found_once name (is_named name) (name_means name) r.objectives is.objective_names x (k, x, h, e, (refl, named name x q.0)))
        ∙ ap Some q.1

-- Listeners

listens_means : (name : List ℕ) (o : Registered) → (is_named name o && o.listening) ≡ true → o.name ≡ name
listens_means name o e = name_means name o (and_parts (is_named name o) o.listening e).0

listens : (name : List ℕ) (o : Registered) → o.name ≡ name → o.listening ≡ true → (is_named name o && o.listening) ≡ true
listens name o n l = ap (λ b. b && o.listening) (named name o n) ∙ l

listeners_say : (r : Registrations) → IsRegistry r → ListenersAreRegistered r
listeners_say r is name asa = (forth (find (λ o. is_named name o && o.listening) r.objectives) refl, back)
  where
    forth : (one : Option Registered) → find (λ o. is_named name o && o.listening) r.objectives ≡ one → option_map (λ o. o.owner) one ≡ Some asa
        → Any (λ o. (o.name ≡ name) × (o.owner ≡ asa) × (o.listening ≡ true)) r.objectives
    forth None e s = absurd (cc)
    forth (Some x) e s =
        let same : x.owner ≡ asa = cc in
        any_weaker (λ o. (o ≡ x) × ((is_named name o && o.listening) ≡ true)) (λ o. (o.name ≡ name) × (o.owner ≡ asa) × (o.listening ≡ true))
        (λ o h. (listens_means name o h.1, ap (λ q. q.owner) h.0 ∙ same, (and_parts (is_named name o) o.listening h.1).1)) r.objectives
        (found_one (λ o. is_named name o && o.listening) r.objectives x e)

    back : Any (λ o. (o.name ≡ name) × (o.owner ≡ asa) × (o.listening ≡ true)) r.objectives → listener_of r name ≡ Some asa
    back (k, x, h, e, q) =
        ap (option_map (λ o. o.owner))
        (found_once name (λ o. is_named name o && o.listening) (listens_means name) r.objectives is.objective_names x (k, x, h, e, (refl, listens name x q.0 q.2)))
        ∙ ap Some q.1

-- Offered values

offers_say : (r : Registrations) → IsRegistry r → OffersAreRegistered r
offers_say r is name value = (forth (find (is_named name) r.objectives) refl, back)
  where
    forth : (one : Option Registered) → find (is_named name) r.objectives ≡ one → offer_of one ≡ Some value
        → Any (λ o. (o.name ≡ name) × (o.offered ≡ Some value)) r.objectives
    forth None e s = absurd (cc)
    forth (Some x) e s =
        any_weaker (λ o. (o ≡ x) × (is_named name o ≡ true)) (λ o. (o.name ≡ name) × (o.offered ≡ Some value))
        (λ o h. (name_means name o h.1, ap (λ q. q.offered) h.0 ∙ s)) r.objectives (found_one (is_named name) r.objectives x e)

    back : Any (λ o. (o.name ≡ name) × (o.offered ≡ Some value)) r.objectives → value_offered r name ≡ Some value
    back (k, x, h, e, q) =
        ap offer_of (found_once name (is_named name) (name_means name) r.objectives is.objective_names x (k, x, h, e, (refl, named name x q.0)))
        ∙ q.1

pub look_ups : LookUpsAreRegistered
look_ups r is = record { flags = flags_say r is; listeners = listeners_say r is; offers = offers_say r is }

-- The names of an agent

pub owner_means : (asa : ℕ) (o : Registered) → is_owned_by asa o ≡ true → o.owner ≡ asa
owner_means asa o e = grind (arith, e)

-- the names of those that pass, as a part of all
part_names : (p : Registered → Bool) (os : List Registered) → IsPartOf (map (λ o. o.name) (filter p os)) (map (λ o. o.name) os)
part_names p [] = refl
part_names p (o ∷ os) = let rest = part_names p os in
    elim (p o) as (λ b. IsPartOf (map (λ o. o.name) (cond b (o ∷ filter p os) (filter p os))) (map (λ o. o.name) (o ∷ os))) [
      | true ↦ inr (map (λ o. o.name) (filter p os), refl, rest)
      | false ↦ inl rest
    ]

-- a name of those that pass is that of one that passes, and each of these has its name among them
name_there : (p : Registered → Bool) (os : List Registered) (name : List ℕ) → Contains (map (λ o. o.name) os) name → Any (λ o. o.name ≡ name) os
name_there p [] name (k, h, e) = absurd (omega (arith, h))
name_there p (o ∷ os) name (zero, h, e) = any_here (λ q. q.name ≡ name) o os e
name_there p (o ∷ os) name (suc k, h, e) = any_later (λ q. q.name ≡ name) o os (name_there p os name (k, omega (arith, h), e))

there_named : (p : Registered → Bool) (os : List Registered) (name : List ℕ) → Any (λ o. (p o ≡ true) × (o.name ≡ name)) os
    → Contains (map (λ o. o.name) (filter p os)) name
there_named p [] name a = absurd (any_none (λ o. (p o ≡ true) × (o.name ≡ name)) a)
there_named p (o ∷ os) name a = by (p o) refl (any_cases (λ o. (p o ≡ true) × (o.name ≡ name)) o os a) (there_named p os name)
  where
    by : (b : Bool) → p o ≡ b → ((p o ≡ true) × (o.name ≡ name)) ⊎ Any (λ q. (p q ≡ true) × (q.name ≡ name)) os
        → (Any (λ q. (p q ≡ true) × (q.name ≡ name)) os → Contains (map (λ q. q.name) (filter p os)) name)
        → Contains (map (λ q. q.name) (cond b (o ∷ filter p os) (filter p os))) name
    by true e (inl h) rest = (0, omega arith, h.1)
    by true e (inr h) rest = let more = rest h in (suc more.0, omega (arith, more.1), more.2)
    by false e (inl h) rest = absurd (true≢false (sym h.0 ∙ e))
    by false e (inr h) rest = rest h

pub names_own : NamesAreRegistered
names_own r asa = record {
  each = λ name. (
    λ there. any_weaker (λ o. (is_owned_by asa o ≡ true) × (o.name ≡ name)) (λ o. (o.owner ≡ asa) × (o.name ≡ name)) (λ o h. (owner_means asa o h.0, h.1)) r.objectives
        (any_filter (is_owned_by asa) (λ o. o.name ≡ name) r.objectives (name_there (is_owned_by asa) (filter (is_owned_by asa) r.objectives) name there)),
    λ own. there_named (is_owned_by asa) r.objectives name
        (any_weaker (λ o. (o.owner ≡ asa) × (o.name ≡ name)) (λ o. (is_owned_by asa o ≡ true) × (o.name ≡ name)) (λ o h. (eq-eqb o.owner asa h.0, h.1)) r.objectives own),
  );
  order = part_names (is_owned_by asa) r.objectives;
}
