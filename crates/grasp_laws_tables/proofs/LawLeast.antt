-- Of the refusals that hold of a call, the least is answered.
use Rattle.std.proofs.Common.{◌≡◌, ◌≢◌, ℕ, ◌<◌, ◌≤◌, Bool, true, false, not, ◌&&◌, ◌||◌, ◌⊎◌, inl, inr, List, [], ◌∷◌, zero, suc, ◌+◌, length, get_or, Option, Some, None, Result, Ok, Err, nat_le, eqb, Decides, if◌then◌else◌, refl, sym, ap, ◌∙◌, subst, arith, rules, tests, lit≤}
use Rattle.std.specs.Prelude.{All, Any}
use Rattle.std.specs.List.{list_any, position}
use Rattle.std.proofs.lemmas.Bool.{false≢true, false_from_ne_true}
use Rattle.std.proofs.lemmas.Bool.Decides.{Decides-eqb}
use Rattle.std.proofs.lemmas.List.Folds.{Any-from_list_any, list_any_at, list_any_none}
use Rattle.std.proofs.lemmas.Slice.Eq.{bytes_eq-Decides}
use Rattle.grasp_types.specs.Objective.{has_neg, has_synch, has_dry}
use Rattle.grasp_types.specs.Refusal.{refusal_number}
use Rattle.grasp_types.specs.declared.refusal.ApiRefused.{ApiRefused}
use Rattle.grasp_types.specs.declared.refusal.ApiRefused.TheVariants.{NoAsa, AsasFull, DuplicateAsa, NotBoth, ObjectivesFull, ObjectiveTaken, NotYourObjective, NotNegotiable, NotSynchronizable, NotDry}
use Rattle.grasp_asa.specs.declared.entry.Agent.{Agent}
use Rattle.grasp_asa.specs.declared.entry.Registered.{Registered}
use Rattle.grasp_asa.specs.Registrations.{Registrations, IsRegistry, is_registered, is_numbered, is_agent_name, is_agent_named, is_taken, is_named, is_owned_by, is_of, is_both_or_neither, is_dry_alone}
use Rattle.grasp_asa.specs.Answers.{register_asa_answer, deregister_asa_answer, register_objective_answer, owned_answer, owner_answer, deregister_objective_answer, wanted_answer, listen_answer, offer_answer}
use Rattle.grasp_laws_tables.specs.Laws.{IsLeast, IsNoAgent, IsOf, IsNotOwned, RefusesRegisterAsa, RefusesDeregisterAsa, RefusesRegisterObjective, RefusesOwned, RefusesListen, RefusesOffer, RefusalsAreLeast}
use Rattle.grasp_asa.proofs.Kept.{named_once}
use Rattle.grasp_asa.proofs.Lists.{none_at, missed}
use Rattle.grasp_asa.proofs.Places.{place_found, named_at_place}
use Rattle.grasp_cbor.proofs.Facts.Bools.{and_false}
use Rattle.grasp_cbor.proofs.Facts.Lists.{missed as list_any-find}

-- tests, each with the refusal that it decides, in order
abbrev Tests : Type 0
Tests = List (Bool × ApiRefused)

-- the refusal of the first test that passes, or the answer
abbrev first_of : {X : Type 0} → Tests → X → Result X ApiRefused
first_of [] x = Ok x
first_of (t ∷ ts) x = if t.0 then Err t.1 else first_of ts x

-- each test passes exactly where its refusal holds
abbrev AreDecided : (ApiRefused → Type 0) → Tests → Type 0
AreDecided Holds [] = Unit {0}
AreDecided Holds (t ∷ ts) = Decides t.0 (Holds t.1) × AreDecided Holds ts

-- the refusals are in the order of their numbers
abbrev AreRising : ℕ → Tests → Type 0
AreRising n [] = Unit {0}
AreRising n (t ∷ ts) = (n ≤ refusal_number t.1) × AreRising (refusal_number t.1) ts

abbrev IsTested : ApiRefused → Tests → Type 0
IsTested e [] = ⊥
IsTested e (t ∷ ts) = (e ≡ t.1) ⊎ IsTested e ts

-- none of the tested is below the first
not_below : (n : ℕ) (ts : Tests) (e : ApiRefused) → AreRising n ts → IsTested e ts → n ≤ refusal_number e
not_below n [] e rising h = absurd h
not_below n (t ∷ ts) e rising (inl q) = let number = ap refusal_number q in omega (arith, rising.0)
not_below n (t ∷ ts) e rising (inr h) = let rest = not_below (refusal_number t.1) ts e rising.1 h in omega (arith, rising.0)

-- the first of the tests in order is the least refusal that holds
least_first : {X : Type 0} (Holds : ApiRefused → Type 0) (n : ℕ) (ts : Tests) (x : X) → AreDecided Holds ts → AreRising n ts → ((e : ApiRefused) → Holds e → IsTested e ts) → IsLeast Holds (first_of ts x)
least_first Holds n [] x decided rising all = record { refused = tt; accepted = λ e h. all e h }
least_first Holds n ((true, e) ∷ ts) x decided rising all = record {
  refused = (decided.0.0 refl, λ f h. not_below (refusal_number e) ((true, e) ∷ ts) f (omega arith, rising.1) (all f h));
  accepted = tt;
}
least_first Holds n ((false, e) ∷ ts) x decided rising all =
    least_first Holds (refusal_number e) ts x decided.1 rising.1 (λ f h. elim (all f h) as (λ _. IsTested f ts) [
      | inl q ↦ absurd (false≢true (decided.0.1 (subst Holds q h)))
      | inr k ↦ k
    ])

-- tests of facts
not_decided : (b : Bool) → Decides (not b) (b ≡ false)
not_decided true = (λ q. absurd (false≢true q), λ q. sym q)
not_decided false = (λ _. refl, λ _. refl)

or_decided : (a b : Bool) (P Q : Type 0) → Decides a P → Decides b Q → Decides (a || b) (P ⊎ Q)
or_decided true b P Q p q = (λ _. inl (p.0 refl), λ _. refl)
or_decided false b P Q p q = (λ h. inr (q.0 h), λ h. elim h as (λ _. b ≡ true) [ inl x ↦ absurd (false≢true (p.1 x)) | inr y ↦ q.1 y ])

and_decided : (a b : Bool) (P Q : Type 0) → Decides a P → Decides b Q → Decides (a && b) (P × Q)
and_decided true b P Q p q = (λ h. (p.0 refl, q.0 h), λ h. q.1 h.1)
and_decided false b P Q p q = (λ h. absurd (false≢true h), λ h. p.1 h.0)

same_decided : (a b : Bool) → Decides (if a then b else not b) (a ≡ b)
same_decided true b = (λ h. sym h, λ h. sym h)
same_decided false true = (λ h. absurd (false≢true h), λ h. h)
same_decided false false = (λ _. refl, λ _. refl)

self_decided : (b : Bool) → Decides b (b ≡ true)
self_decided b = (λ h. h, λ h. h)

-- one element of the list has the fact
pub any_decided : {X : Type 0} (p : X → Bool) (P : X → Type 0) → ((x : X) → Decides (p x) (P x)) → (xs : List X) → Decides (list_any p xs) (Any P xs)
any_decided p P each xs = (
  λ h. let a = Any-from_list_any p xs h in (a.0, a.1, a.2, a.3, (each a.1).0 a.4),
  λ a. list_any_at p xs a.0 a.1 a.2 (ap p a.3 ∙ (each a.1).1 a.4),
)

none_if : {X : Type 0} (p : X → Bool) (P : X → Type 0) → ((x : X) → Decides (p x) (P x)) → (xs : List X) (b : Bool) → list_any p xs ≡ b → Decides (not b) (All (λ x. ¬ P x) xs)
none_if p P each xs true h = (λ q. absurd (false≢true q), λ none. absurd (false≢true (sym (list_any_none p xs (λ k d w. false_from_ne_true (p (get_or xs k d)) (λ t. none k d w ((each (get_or xs k d)).0 t)))) ∙ h)))
none_if p P each xs false h = (λ _ k d w holds. false≢true (sym (none_at p xs k d h w) ∙ (each (get_or xs k d)).1 holds), λ _. refl)

-- no element of the list has the fact
none_decided : {X : Type 0} (p : X → Bool) (P : X → Type 0) → ((x : X) → Decides (p x) (P x)) → (xs : List X) → Decides (not (list_any p xs)) (All (λ x. ¬ P x) xs)
none_decided p P each xs = none_if p P each xs (list_any p xs) refl

or_false : (b : Bool) → (b || false) ≡ b
or_false true = refl
or_false false = refl

-- where one place passes alone, only that one decides
any_one : {X : Type 0} (p t : X → Bool) (xs : List X) (i : ℕ) (d : X) → ((j : ℕ) (e : X) → j < length xs → j ≢ i → p (get_or xs j e) ≡ false) → i < length xs → p (get_or xs i d) ≡ true → list_any (λ x. p x && t x) xs ≡ t (get_or xs i d)
any_one p t [] i d others h passes = absurd (omega arith)
any_one p t (x ∷ xs) zero d others h passes =
    let rest : list_any (λ y. p y && t y) xs ≡ false = list_any_none (λ y. p y && t y) xs (λ k e w. ap (λ b. b && t (get_or xs k e)) (others (suc k) e (omega arith) (λ q. omega arith))) in
    ap (λ b. (b && t x) || list_any (λ y. p y && t y) xs) passes ∙ (ap (λ b. t x || b) rest ∙ or_false (t x))
any_one p t (x ∷ xs) (suc i) d others h passes =
    let first : p x ≡ false = others 0 x (omega arith) (λ q. omega arith) in
    ap (λ b. (b && t x) || list_any (λ y. p y && t y) xs) first ∙ any_one p t xs i d (λ j e k n. others (suc j) e (omega arith) (λ q. n (omega arith))) (omega arith) passes

-- the tests of an agent and of its objective
number_decided : (asa : ℕ) (a : Agent) → Decides (is_numbered asa a) (a.number ≡ asa)
number_decided asa a = Decides-eqb a.number asa

of_decided : (asa : ℕ) (name : List ℕ) (o : Registered) → Decides (is_of asa name o) (IsOf asa name o)
of_decided asa name o = and_decided (is_owned_by asa o) (is_named name o) (o.owner ≡ asa) (o.name ≡ name) (Decides-eqb o.owner asa) (bytes_eq-Decides o.name name)

no_agent_decided : (r : Registrations) (asa : ℕ) → Decides (not (is_registered r asa)) (IsNoAgent r asa)
no_agent_decided r asa = none_decided (is_numbered asa) (λ a. a.number ≡ asa) (number_decided asa) r.agents

not_owned_decided : (r : Registrations) (asa : ℕ) (name : List ℕ) → Decides (not (list_any (is_of asa name) r.objectives)) (IsNotOwned r asa name)
not_owned_decided r asa name = none_decided (is_of asa name) (IsOf asa name) (of_decided asa name) r.objectives

full_decided : (n most : ℕ) → n ≤ most → Decides (nat_le most n) (n ≡ most)
full_decided n most h = (
  λ q. let k : most ≤ n = search (rules, tests) in omega arith,
  λ e. let k : most ≤ n = omega arith in search (rules, tests),
)

-- the registration of an agent
tested_register_asa : (r : Registrations) (name : List ℕ) (a b : Bool) (e : ApiRefused) → RefusesRegisterAsa r name e → IsTested e ((a, AsasFull) ∷ (b, DuplicateAsa) ∷ [])
tested_register_asa r name a b AsasFull h = inl refl
tested_register_asa r name a b DuplicateAsa h = inr (inl refl)
tested_register_asa r name a b _ h = absurd h

least_register_asa : (r : Registrations) (name : List ℕ) → IsRegistry r → IsLeast (RefusesRegisterAsa r name) (register_asa_answer r name)
least_register_asa r name is =
    let full = or_decided (nat_le 32 (length r.agents)) (eqb r.made 4294967295) (length r.agents ≡ 32) (r.made ≡ 4294967295) (full_decided (length r.agents) 32 is.agents) (Decides-eqb r.made 4294967295) in
    let named = any_decided (is_agent_named name) (λ a. a.name ≡ name) (λ a. bytes_eq-Decides a.name name) r.agents in
    least_first (RefusesRegisterAsa r name) 0 ((nat_le 32 (length r.agents) || eqb r.made 4294967295, AsasFull) ∷ (is_agent_name r name, DuplicateAsa) ∷ []) (r.made + 1) (full, (named, tt)) (lit≤ tt, (lit≤ tt, tt)) (tested_register_asa r name (nat_le 32 (length r.agents) || eqb r.made 4294967295) (is_agent_name r name))

-- the deregistration of an agent
tested_deregister_asa : (r : Registrations) (asa : ℕ) (a : Bool) (e : ApiRefused) → RefusesDeregisterAsa r asa e → IsTested e ((a, NoAsa) ∷ [])
tested_deregister_asa r asa a NoAsa h = inl refl
tested_deregister_asa r asa a _ h = absurd h

turned : (b : Bool) (x y : Result (Unit {0}) ApiRefused) → (if not b then y else x) ≡ (if b then x else y)
turned true x y = refl
turned false x y = refl

least_deregister_asa : (r : Registrations) (asa : ℕ) → IsLeast (RefusesDeregisterAsa r asa) (deregister_asa_answer r asa)
least_deregister_asa r asa =
    subst (IsLeast (RefusesDeregisterAsa r asa)) (turned (is_registered r asa) (Ok tt) (Err NoAsa)) (least_first (RefusesDeregisterAsa r asa) 0 ((not (is_registered r asa), NoAsa) ∷ []) tt (no_agent_decided r asa, tt) (lit≤ tt, tt) (tested_deregister_asa r asa (not (is_registered r asa))))

-- the registration of an objective
tested_register_objective : (r : Registrations) (asa : ℕ) (name : List ℕ) (flags : ℕ) (a b c d f : Bool) (e : ApiRefused) → RefusesRegisterObjective r asa name flags e → IsTested e ((a, NoAsa) ∷ (b, NotBoth) ∷ (c, ObjectivesFull) ∷ (d, ObjectiveTaken) ∷ (f, NotDry) ∷ [])
tested_register_objective r asa name flags a b c d f NoAsa h = inl refl
tested_register_objective r asa name flags a b c d f NotBoth h = inr (inl refl)
tested_register_objective r asa name flags a b c d f ObjectivesFull h = inr (inr (inl refl))
tested_register_objective r asa name flags a b c d f ObjectiveTaken h = inr (inr (inr (inl refl)))
tested_register_objective r asa name flags a b c d f NotDry h = inr (inr (inr (inr (inl refl))))
tested_register_objective r asa name flags a b c d f _ h = absurd h

least_register_objective : (r : Registrations) (asa : ℕ) (name : List ℕ) (flags : ℕ) → IsRegistry r → IsLeast (RefusesRegisterObjective r asa name flags) (register_objective_answer r asa name flags)
least_register_objective r asa name flags is =
    let both = same_decided (has_neg flags) (has_synch flags) in
    let full = full_decided (length r.objectives) 64 is.objectives in
    let taken = any_decided (is_named name) (λ o. o.name ≡ name) (λ o. bytes_eq-Decides o.name name) r.objectives in
    let dry = and_decided (has_dry flags) (not (has_neg flags)) (has_dry flags ≡ true) (has_neg flags ≡ false) (self_decided (has_dry flags)) (not_decided (has_neg flags)) in
    least_first (RefusesRegisterObjective r asa name flags) 0 ((not (is_registered r asa), NoAsa) ∷ (is_both_or_neither flags, NotBoth) ∷ (nat_le 64 (length r.objectives), ObjectivesFull) ∷ (is_taken r name, ObjectiveTaken) ∷ (is_dry_alone flags, NotDry) ∷ []) tt (no_agent_decided r asa, (both, (full, (taken, (dry, tt))))) (lit≤ tt, (lit≤ tt, (lit≤ tt, (lit≤ tt, (lit≤ tt, tt))))) (tested_register_objective r asa name flags (not (is_registered r asa)) (is_both_or_neither flags) (nat_le 64 (length r.objectives)) (is_taken r name) (is_dry_alone flags))

-- the calls on an agent's objective
abbrev owned_tests : Registrations → ℕ → List ℕ → Tests
owned_tests r asa name = (not (is_registered r asa), NoAsa) ∷ (not (list_any (is_of asa name) r.objectives), NotYourObjective) ∷ []

tested_owned : (r : Registrations) (asa : ℕ) (name : List ℕ) (a b : Bool) (e : ApiRefused) → RefusesOwned r asa name e → IsTested e ((a, NoAsa) ∷ (b, NotYourObjective) ∷ [])
tested_owned r asa name a b NoAsa h = inl refl
tested_owned r asa name a b NotYourObjective h = inr (inl refl)
tested_owned r asa name a b _ h = absurd h

least_owned_tests : {X : Type 0} (r : Registrations) (asa : ℕ) (name : List ℕ) (x : X) → IsLeast (RefusesOwned r asa name) (first_of (owned_tests r asa name) x)
least_owned_tests r asa name x =
    least_first (RefusesOwned r asa name) 0 (owned_tests r asa name) x (no_agent_decided r asa, (not_owned_decided r asa name, tt)) (lit≤ tt, (lit≤ tt, tt)) (tested_owned r asa name (not (is_registered r asa)) (not (list_any (is_of asa name) r.objectives)))

-- any objective will do
some_objective : Registered
some_objective = record { owner = 0; name = []; flags = 0; listening = false; offered = None }

-- the first two tests are those of `owned`
owned_if : (r : Registrations) (asa : ℕ) (name : List ℕ) (here : Bool) (at : Option ℕ) → is_registered r asa ≡ here → position (is_of asa name) r.objectives ≡ at → (x : ℕ) × (owned_answer r asa name ≡ first_of (owned_tests r asa name) x)
owned_if r asa name false at h p = (0, rw h refl)
owned_if r asa name true None h p =
    let none = missed (is_of asa name) r.objectives p in
    (0, rw (h, none, list_any-find (is_of asa name) r.objectives none) refl)
owned_if r asa name true (Some i) h p =
    let place = place_found r asa name i h p in
    let some : list_any (is_of asa name) r.objectives ≡ true = list_any_at (is_of asa name) r.objectives i some_objective place.within (place.mine some_objective) in
    let rest : first_of (owned_tests r asa name) (get_or r.objectives i some_objective).flags ≡ Ok (get_or r.objectives i some_objective).flags = rw (h, some) refl in
    ((get_or r.objectives i some_objective).flags, place.owned some_objective ∙ sym rest)

least_owned : (r : Registrations) (asa : ℕ) (name : List ℕ) → IsLeast (RefusesOwned r asa name) (owned_answer r asa name)
least_owned r asa name =
    let it = owned_if r asa name _ _ refl refl in
    subst (IsLeast (RefusesOwned r asa name)) (sym it.1) (least_owned_tests r asa name it.0)

owner_first : (ts : Tests) (x : ℕ) → owner_answer (first_of ts x) ≡ first_of ts tt
owner_first [] x = refl
owner_first ((true, e) ∷ ts) x = refl
owner_first ((false, e) ∷ ts) x = owner_first ts x

least_deregister_objective : (r : Registrations) (asa : ℕ) (name : List ℕ) → IsLeast (RefusesOwned r asa name) (deregister_objective_answer r asa name)
least_deregister_objective r asa name =
    let it = owned_if r asa name _ _ refl refl in
    subst (IsLeast (RefusesOwned r asa name)) (sym (ap owner_answer it.1 ∙ owner_first (owned_tests r asa name) it.0)) (least_owned_tests r asa name tt)

-- the tests of a call for an agent's objective: those of `owned`, and then whether its flags have what is wanted
abbrev wanted_tests : (ℕ → Bool) → ApiRefused → Registrations → ℕ → List ℕ → Tests
wanted_tests wanted refused r asa name = (not (is_registered r asa), NoAsa) ∷ (not (list_any (is_of asa name) r.objectives), NotYourObjective) ∷ (list_any (λ o. is_of asa name o && not (wanted o.flags)) r.objectives, refused) ∷ []

not_of : (asa : ℕ) (name : List ℕ) (o : Registered) → is_named name o ≡ false → is_of asa name o ≡ false
not_of asa name o h = ap (λ b. is_owned_by asa o && b) h ∙ and_false (is_owned_by asa o)

wanted_is : (b : Bool) (e : ApiRefused) → ◌≡◌ {A = Result (Unit {0}) ApiRefused} (if b then Ok tt else Err e) (if not b then Err e else Ok tt)
wanted_is true e = refl
wanted_is false e = refl

wanted_first : (r : Registrations) (asa : ℕ) (name : List ℕ) (wanted : ℕ → Bool) (refused : ApiRefused) (here : Bool) (at : Option ℕ) → IsRegistry r → is_registered r asa ≡ here → position (is_of asa name) r.objectives ≡ at → wanted_answer wanted refused (owned_answer r asa name) ≡ first_of (wanted_tests wanted refused r asa name) tt
wanted_first r asa name wanted refused false at is h p = rw h refl
wanted_first r asa name wanted refused true None is h p =
    let none = missed (is_of asa name) r.objectives p in
    rw (h, none, list_any-find (is_of asa name) r.objectives none) refl
wanted_first r asa name wanted refused true (Some i) is h p =
    let xs = r.objectives in
    let place = place_found r asa name i h p in
    let named = named_at_place r r asa name i refl place in
    let o = get_or xs i some_objective in
    let some : list_any (is_of asa name) xs ≡ true = list_any_at (is_of asa name) xs i some_objective place.within (place.mine some_objective) in
    let one : list_any (λ x. is_of asa name x && not (wanted x.flags)) xs ≡ not (wanted o.flags) = any_one (is_of asa name) (λ x. not (wanted x.flags)) xs i some_objective (λ j e k n. not_of asa name (get_or xs j e) (named_once r name i is named.within named.named j e k n)) place.within (place.mine some_objective) in
    let rest : first_of (wanted_tests wanted refused r asa name) (tt {0}) ≡ (if not (wanted o.flags) then Err refused else Ok (tt {0})) = rw (h, some, one) refl in
    ap (wanted_answer wanted refused) (place.owned some_objective) ∙ (wanted_is (wanted o.flags) refused ∙ sym rest)

lacks_decided : (asa : ℕ) (name : List ℕ) (wanted : ℕ → Bool) (o : Registered) → Decides (is_of asa name o && not (wanted o.flags)) (IsOf asa name o × (wanted o.flags ≡ false))
lacks_decided asa name wanted o = and_decided (is_of asa name o) (not (wanted o.flags)) (IsOf asa name o) (wanted o.flags ≡ false) (of_decided asa name o) (not_decided (wanted o.flags))

tested_listen : (r : Registrations) (asa : ℕ) (name : List ℕ) (a b c : Bool) (e : ApiRefused) → RefusesListen r asa name e → IsTested e ((a, NoAsa) ∷ (b, NotYourObjective) ∷ (c, NotNegotiable) ∷ [])
tested_listen r asa name a b c NoAsa h = inl refl
tested_listen r asa name a b c NotYourObjective h = inr (inl refl)
tested_listen r asa name a b c NotNegotiable h = inr (inr (inl refl))
tested_listen r asa name a b c _ h = absurd h

least_listen : (r : Registrations) (asa : ℕ) (name : List ℕ) → IsRegistry r → IsLeast (RefusesListen r asa name) (listen_answer r asa name)
least_listen r asa name is =
    let lacks = any_decided (λ o. is_of asa name o && not (has_neg o.flags)) (λ o. IsOf asa name o × (has_neg o.flags ≡ false)) (lacks_decided asa name has_neg) r.objectives in
    subst (IsLeast (RefusesListen r asa name)) (sym (wanted_first r asa name has_neg NotNegotiable _ _ is refl refl)) (least_first (RefusesListen r asa name) 0 (wanted_tests has_neg NotNegotiable r asa name) tt (no_agent_decided r asa, (not_owned_decided r asa name, (lacks, tt))) (lit≤ tt, (lit≤ tt, (lit≤ tt, tt))) (tested_listen r asa name (not (is_registered r asa)) (not (list_any (is_of asa name) r.objectives)) (list_any (λ o. is_of asa name o && not (has_neg o.flags)) r.objectives)))

tested_offer : (r : Registrations) (asa : ℕ) (name : List ℕ) (a b c : Bool) (e : ApiRefused) → RefusesOffer r asa name e → IsTested e ((a, NoAsa) ∷ (b, NotYourObjective) ∷ (c, NotSynchronizable) ∷ [])
tested_offer r asa name a b c NoAsa h = inl refl
tested_offer r asa name a b c NotYourObjective h = inr (inl refl)
tested_offer r asa name a b c NotSynchronizable h = inr (inr (inl refl))
tested_offer r asa name a b c _ h = absurd h

least_offer : (r : Registrations) (asa : ℕ) (name : List ℕ) → IsRegistry r → IsLeast (RefusesOffer r asa name) (offer_answer r asa name)
least_offer r asa name is =
    let lacks = any_decided (λ o. is_of asa name o && not (has_synch o.flags)) (λ o. IsOf asa name o × (has_synch o.flags ≡ false)) (lacks_decided asa name has_synch) r.objectives in
    subst (IsLeast (RefusesOffer r asa name)) (sym (wanted_first r asa name has_synch NotSynchronizable _ _ is refl refl)) (least_first (RefusesOffer r asa name) 0 (wanted_tests has_synch NotSynchronizable r asa name) tt (no_agent_decided r asa, (not_owned_decided r asa name, (lacks, tt))) (lit≤ tt, (lit≤ tt, (lit≤ tt, tt))) (tested_offer r asa name (not (is_registered r asa)) (not (list_any (is_of asa name) r.objectives)) (list_any (λ o. is_of asa name o && not (has_synch o.flags)) r.objectives)))

pub refusals_least : (r : Registrations) → IsRegistry r → RefusalsAreLeast r
refusals_least r is = record {
  register_asa = λ name. least_register_asa r name is;
  deregister_asa = λ asa. least_deregister_asa r asa;
  register_objective = λ asa name flags. least_register_objective r asa name flags is;
  owned = λ asa name. least_owned r asa name;
  deregister_objective = λ asa name. least_deregister_objective r asa name;
  listen = λ asa name. least_listen r asa name is;
  offer = λ asa name. least_offer r asa name is;
}
