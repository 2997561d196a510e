-- What the calls of other agents leave, and the numbers of new agents.
use Rattle.std.proofs.Common.{◌≡◌, ◌≢◌, ℕ, suc, ◌+◌, ◌<◌, ◌≤◌, Bool, true, false, not, ◌&&◌, ◌||◌, cond, inl, inr, List, [], ◌∷◌, ◌++◌, length}
use Rattle.std.proofs.Common.{map, get_or, Option, Some, None, Result, Ok, Err, nat_le, eqb, if◌then◌else◌, refl, sym, ap, ◌∙◌, subst, arith, rules}
use Rattle.std.proofs.Common.{tests}
use Rattle.std.specs.Prelude.{IfOk, Any}
use Rattle.std.specs.List.{filter, find, list_any, All}
use Rattle.std.proofs.lemmas.Bool.{false≢true, cases_order, false_from_ne_true as fails}
use Rattle.grasp_cbor.specs.DataItem.{DataItem}
use Rattle.grasp_types.specs.Objective.{has_neg, has_synch}
use Rattle.grasp_types.specs.declared.refusal.ApiRefused.{ApiRefused}
use Rattle.grasp_types.specs.declared.refusal.ApiRefused.TheVariants.{NoAsa, AsasFull, DuplicateAsa, NotBoth, ObjectivesFull, ObjectiveTaken}
use Rattle.grasp_types.specs.declared.refusal.ApiRefused.TheVariants.{NotNegotiable, NotSynchronizable, NotDry}
use Rattle.grasp_asa.specs.declared.entry.Agent.{Agent}
use Rattle.grasp_asa.specs.declared.entry.Registered.{Registered}
use Rattle.grasp_asa.specs.Place.{IsPlaceOf}
use Rattle.grasp_asa.specs.Registrations.{Registrations, IsRegistry, is_numbered, is_named, is_owned_by, is_of, is_registered, is_agent_name}
use Rattle.grasp_asa.specs.Registrations.{is_taken, is_both_or_neither, is_dry_alone}
use Rattle.grasp_asa.specs.Answers.{register_asa_answer, after_register_asa, deregister_asa_answer, after_deregister_asa, register_objective_answer}
use Rattle.grasp_asa.specs.Answers.{after_register_objective, deregister_objective_answer, after_deregister_objective, listen_answer, marked}
use Rattle.grasp_asa.specs.Answers.{after_listen, offer_answer, offering, after_offer}
use Rattle.grasp_laws_tables.specs.Laws.{IsAsBefore, IsLeftByOthers, IsNewNumber, IsCounted}
use Rattle.grasp_asa.proofs.Kept.{named_once}
use Rattle.grasp_asa.proofs.Places.{is_of-named, wanted_ok}
use Rattle.grasp_laws_tables.proofs.LawLeast.{any_decided}
use Rattle.std.proofs.lemmas.Slice.Eq.{bytes_eq-Decides}

-- Lists in which something is found

-- what keeps all that passes leaves what is found
find_kept : {X : Type 0} (p q : X → Bool) → ((x : X) → p x ≡ true → q x ≡ true) → (xs : List X) → find p (filter q xs) ≡ find p xs
find_kept p q keeps [] = refl
find_kept p q keeps (x ∷ xs) = by (p x) (q x) refl refl (find_kept p q keeps xs)
  where
    by : (b c : Bool) → p x ≡ b → q x ≡ c → find p (filter q xs) ≡ find p xs → find p (cond c (x ∷ filter q xs) (filter q xs)) ≡ cond b (Some x) (find p xs)
    by true true s t rest = ap (λ b. cond b (Some x) (find p (filter q xs))) s
    by true false s t rest = absurd (false≢true (sym t ∙ keeps x s))
    by false true s t rest = ap (λ b. cond b (Some x) (find p (filter q xs))) s ∙ rest
    by false false s t rest = rest

-- one more that fails leaves what is found
find_push : {X : Type 0} (p : X → Bool) (xs : List X) (y : X) → p y ≡ false → find p (xs ++ y ∷ []) ≡ find p xs
find_push p [] y h = ap (λ b. cond b (Some y) None) h
find_push p (x ∷ xs) y h = ap (λ rest. cond (p x) (Some x) rest) (find_push p xs y h)

-- a change that leaves what passes, and that no test sees, leaves what is found
find_changed : {X : Type 0} (p : X → Bool) (f : X → X) (xs : List X) → ((x : X) → p (f x) ≡ p x)
    → ((j : ℕ) (d : X) → j < length xs → p (get_or xs j d) ≡ true → f (get_or xs j d) ≡ get_or xs j d) → find p (map f xs) ≡ find p xs
find_changed p f [] unseen leaves = refl
find_changed p f (x ∷ xs) unseen leaves =
    let rest = find_changed p f xs unseen (λ j d h. leaves (suc j) d (omega arith)) in
    ap (λ b. cond b (Some (f x)) (find p (map f xs))) (unseen x) ∙ by (p x) (leaves 0 x (omega arith)) rest
  where
    by : (b : Bool) → (b ≡ true → f x ≡ x) → find p (map f xs) ≡ find p xs → cond b (Some (f x)) (find p (map f xs)) ≡ cond b (Some x) (find p xs)
    by true h rest = ap (λ y. Some y) (h refl)
    by false h rest = rest

first : (a b : Bool) → (a && b) ≡ true → a ≡ true
first true b h = refl
first false b h = absurd (false≢true h)

owner_is : (asa : ℕ) (o : Registered) → is_owned_by asa o ≡ true → o.owner ≡ asa
owner_is asa o h = search (rules, tests)

owner_of : (asa : ℕ) (name : List ℕ) (o : Registered) → is_of asa name o ≡ true → o.owner ≡ asa
owner_of asa name o h = owner_is asa o (first (is_owned_by asa o) (is_named name o) h)

-- the owner of one objective isn't another
not_owned : (asa owner : ℕ) (o : Registered) → asa ≢ owner → o.owner ≡ owner → is_owned_by asa o ≡ false
not_owned asa owner o other same = fails (is_owned_by asa o) (λ t. other (sym (owner_is asa o t) ∙ same))

not_both : (a b : Bool) → a ≡ false → (a && b) ≡ false
not_both true b h = absurd (false≢true (sym h))
not_both false b h = refl

not_true : (b : Bool) → b ≡ false → not b ≡ true
not_true b h = ap not h

-- The numbers of agents

-- a registered number is one of those that were given
registered_within : (asa made : ℕ) (xs : List Agent) → All (λ a. (1 ≤ a.number) × (a.number ≤ made)) xs → list_any (is_numbered asa) xs ≡ true
    → (1 ≤ asa) × (asa ≤ made)
registered_within asa made [] all h = absurd (false≢true h)
registered_within asa made (x ∷ xs) all h = by (is_numbered asa x) refl h (registered_within asa made xs (λ k d w. all (suc k) d (omega arith)))
  where
    by : (b : Bool) → is_numbered asa x ≡ b → (b || list_any (is_numbered asa) xs) ≡ true
        → (list_any (is_numbered asa) xs ≡ true → (1 ≤ asa) × (asa ≤ made)) → (1 ≤ asa) × (asa ≤ made)
    by true e t rest =
        let same : x.number ≡ asa = search (rules, tests) in
        subst (λ n. (1 ≤ n) × (n ≤ made)) same (all 0 x (omega arith))
    by false e t rest = rest t

-- the next number is no registered one
next_is_another : (r : Registrations) (owner : ℕ) (name : List ℕ) → IsRegistry r → is_registered r owner ≡ true
    → is_numbered owner (record { number = r.made + 1; name = name }) ≡ false
next_is_another r owner name is h =
    let n = registered_within owner r.made r.agents is.numbers h in
    fails (is_numbered owner (record { number = r.made + 1; name = name })) (λ t.
    let same : r.made + 1 ≡ owner = search (rules, tests) in
    omega (arith, n.1, same))

-- Each call

as_it_is : (owner : ℕ) (r : Registrations) → IsAsBefore owner r r
as_it_is owner r = record { agent = refl; objective = λ name. refl }

register_asa_leaves : (r : Registrations) (owner : ℕ) (name : List ℕ) (full named : Bool) → IsRegistry r → is_registered r owner ≡ true
    → IsAsBefore owner r (after_register_asa r name (if full then Err AsasFull else if named then Err DuplicateAsa else Ok (r.made + 1)))
register_asa_leaves r owner name true named is h = as_it_is owner r
register_asa_leaves r owner name false true is h = as_it_is owner r
register_asa_leaves r owner name false false is h = record {
  agent = find_push (is_numbered owner) r.agents (record { number = r.made + 1; name = name }) (next_is_another r owner name is h);
  objective = λ n. refl;
}

agent_stays : (asa owner : ℕ) (a : Agent) → asa ≢ owner → is_numbered owner a ≡ true → not (is_numbered asa a) ≡ true
agent_stays asa owner a other h =
    let mine : a.number ≡ owner = search (rules, tests) in
    not_true (is_numbered asa a) (fails (is_numbered asa a) (λ t.
    let theirs : a.number ≡ asa = search (rules, tests) in
    other (sym theirs ∙ mine)))

deregister_asa_leaves : (r : Registrations) (owner asa : ℕ) (answer : Result (Unit {0}) ApiRefused) → asa ≢ owner
    → IsAsBefore owner r (after_deregister_asa r asa answer)
deregister_asa_leaves r owner asa (Err e) other = as_it_is owner r
deregister_asa_leaves r owner asa (Ok u) other = record {
  agent = find_kept (is_numbered owner) (λ a. not (is_numbered asa a)) (λ a. agent_stays asa owner a other) r.agents;
  objective = λ n. find_kept (is_of owner n) (λ o. not (is_owned_by asa o))
      (λ o h. not_true (is_owned_by asa o) (not_owned asa owner o other (owner_of owner n o h))) r.objectives;
}

register_objective_leaves : (r : Registrations) (owner asa : ℕ) (name : List ℕ) (flags : ℕ) (answer : Result (Unit {0}) ApiRefused) → asa ≢ owner
    → IsAsBefore owner r (after_register_objective r asa name flags answer)
register_objective_leaves r owner asa name flags (Err e) other = as_it_is owner r
register_objective_leaves r owner asa name flags (Ok u) other =
    let new : Registered = record { owner = asa; name = name; flags = flags; listening = false; offered = None } in
    record {
      agent = refl;
      objective = λ n. find_push (is_of owner n) r.objectives new
          (not_both (is_owned_by owner new) (is_named n new) (not_owned owner asa new (λ e. other (sym e)) refl));
    }

deregister_objective_leaves : (r : Registrations) (owner asa : ℕ) (name : List ℕ) (answer : Result (Unit {0}) ApiRefused) → asa ≢ owner
    → IsAsBefore owner r (after_deregister_objective r asa name answer)
deregister_objective_leaves r owner asa name (Err e) other = as_it_is owner r
deregister_objective_leaves r owner asa name (Ok u) other = record {
  agent = refl;
  objective = λ n. find_kept (is_of owner n) (λ o. not (is_of asa name o))
      (λ o h. not_true (is_of asa name o) (not_both (is_owned_by asa o) (is_named name o) (not_owned asa owner o other (owner_of owner n o h)))) r.objectives;
}

-- an objective of this agent hasn't the name of one of another agent
other_name : (r : Registrations) (asa owner : ℕ) (name n : List ℕ) (i : ℕ) → IsRegistry r → IsPlaceOf r asa name i → asa ≢ owner → (j : ℕ) (d : Registered)
    → j < length r.objectives
    → is_of owner n (get_or r.objectives j d) ≡ true → is_named name (get_or r.objectives j d) ≡ false
other_name r asa owner name n i is place other j d k h =
    let xs = r.objectives in
    let mine : (get_or xs j d).owner ≡ owner = owner_of owner n (get_or xs j d) h in
    let named = λ (e : Registered). is_of-named asa name (get_or xs i e) (place.mine e) in
    elim (cases_order i j) as (λ _. is_named name (get_or xs j d) ≡ false) [
      | inl q ↦
          let theirs : (get_or xs i d).owner ≡ asa = owner_of asa name (get_or xs i d) (place.mine d) in
          absurd (other (sym theirs ∙ (ap (λ m. (get_or xs m d).owner) q ∙ mine)))
      | inr q ↦ elim q as (λ _. is_named name (get_or xs j d) ≡ false) [
        | inl before ↦ named_once r name i is place.within named j d k (λ e. omega arith)
        | inr after ↦ named_once r name i is place.within named j d k (λ e. omega arith)
      ]
    ]

-- a change of what has this name, which leaves owners and names
changed_leaves : (r : Registrations) (asa owner : ℕ) (name : List ℕ) (i : ℕ) (f : Registered → Registered) → IsRegistry r → IsPlaceOf r asa name i → asa ≢ owner
    → ((n : List ℕ) (o : Registered) → is_of owner n (f o) ≡ is_of owner n o) → ((o : Registered) → is_named name o ≡ false → f o ≡ o)
    → IsAsBefore owner r (record { agents = r.agents; objectives = map f r.objectives; made = r.made })
changed_leaves r asa owner name i f is place other unseen leaves = record {
  agent = refl;
  objective = λ n. find_changed (is_of owner n) f r.objectives (unseen n)
      (λ j d k h. leaves (get_or r.objectives j d) (other_name r asa owner name n i is place other j d k h));
}

marked_unseen : (owner : ℕ) (name : List ℕ) (on : Bool) (n : List ℕ) (o : Registered) → is_of owner n (marked name on o) ≡ is_of owner n o
marked_unseen owner name on n o =
    elim (is_named name o) as (λ b. is_of owner n (cond b (record o { listening = on }) o) ≡ is_of owner n o) [ true ↦ refl | false ↦ refl ]

offering_unseen : (owner : ℕ) (name : List ℕ) (value : Option DataItem) (n : List ℕ) (o : Registered) → is_of owner n (offering name value o) ≡ is_of owner n o
offering_unseen owner name value n o =
    elim (is_named name o) as (λ b. is_of owner n (cond b (record o { offered = value }) o) ≡ is_of owner n o) [ true ↦ refl | false ↦ refl ]

listen_leaves : (r : Registrations) (owner asa : ℕ) (name : List ℕ) (on : Bool) (answer : Result (Unit {0}) ApiRefused) → IsRegistry r → asa ≢ owner
    → listen_answer r asa name ≡ answer
    → IsAsBefore owner r (after_listen r name on answer)
listen_leaves r owner asa name on (Err e) is other q = as_it_is owner r
listen_leaves r owner asa name on (Ok u) is other q =
    let it = wanted_ok r asa name has_neg NotNegotiable q in
    changed_leaves r asa owner name it.0 (marked name on) is it.1.0 other (marked_unseen owner name on)
    (λ o none. ap (λ b. cond b (record o { listening = on }) o) none)

offer_leaves : (r : Registrations) (owner asa : ℕ) (name : List ℕ) (value : Option DataItem) (answer : Result (Unit {0}) ApiRefused) → IsRegistry r
    → asa ≢ owner → offer_answer r asa name ≡ answer
    → IsAsBefore owner r (after_offer r name value answer)
offer_leaves r owner asa name value (Err e) is other q = as_it_is owner r
offer_leaves r owner asa name value (Ok u) is other q =
    let it = wanted_ok r asa name has_synch NotSynchronizable q in
    changed_leaves r asa owner name it.0 (offering name value) is it.1.0 other (offering_unseen owner name value)
    (λ o none. ap (λ b. cond b (record o { offered = value }) o) none)

pub others_leave : (r : Registrations) (owner : ℕ) → IsRegistry r → is_registered r owner ≡ true → IsLeftByOthers r owner
others_leave r owner is here = record {
  register_asa = λ name. register_asa_leaves r owner name (nat_le 32 (length r.agents) || eqb r.made 4294967295) (is_agent_name r name) is here;
  deregister_asa = λ asa other. deregister_asa_leaves r owner asa (deregister_asa_answer r asa) other;
  register_objective = λ asa name flags other. register_objective_leaves r owner asa name flags (register_objective_answer r asa name flags) other;
  deregister_objective = λ asa name other. deregister_objective_leaves r owner asa name (deregister_objective_answer r asa name) other;
  listen = λ asa name on other. listen_leaves r owner asa name on _ is other refl;
  offer = λ asa name value other. offer_leaves r owner asa name value _ is other refl;
}

-- A name that is taken

-- the registration of an objective is accepted where each of these tests fails
abbrev IsAccepted : Bool → Bool → Bool → Bool → Bool → Type 0
IsAccepted here both full taken dry =
    ◌≡◌ {A = Result (Unit {0}) ApiRefused}
    (if not here then Err NoAsa else if both then Err NotBoth else if full then Err ObjectivesFull else if taken then Err ObjectiveTaken
    else if dry then Err NotDry else Ok tt)
    (Ok tt)

refused_if_taken : (here both full dry : Bool) → IsAccepted here both full true dry → ⊥
refused_if_taken false both full dry q = absurd (cc)
refused_if_taken true true full dry q = absurd (cc)
refused_if_taken true false true dry q = absurd (cc)
refused_if_taken true false false dry q = absurd (cc)

pub taken_stays : (r : Registrations) (asa : ℕ) (name : List ℕ) (flags : ℕ) → Any (λ o. o.name ≡ name) r.objectives
    → register_objective_answer r asa name flags ≢ Ok tt
taken_stays r asa name flags any q =
    let taken : is_taken r name ≡ true = (any_decided (is_named name) (λ o. o.name ≡ name) (λ o. bytes_eq-Decides o.name name) r.objectives).1 any in
    refused_if_taken (is_registered r asa) (is_both_or_neither flags) (nat_le 64 (length r.objectives)) (is_dry_alone flags)
    (subst (λ t. IsAccepted (is_registered r asa) (is_both_or_neither flags) (nat_le 64 (length r.objectives)) t (is_dry_alone flags)) taken q)

-- New numbers

new_if : (r : Registrations) (full named : Bool) → IsRegistry r
    → IfOk (if full then Err AsasFull else if named then Err DuplicateAsa else Ok (r.made + 1)) (IsNewNumber r)
new_if r true named is = tt
new_if r false true is = tt
new_if r false false is = (refl, λ k d h. let n = is.numbers k d h in omega (arith, n.1))

counted_if : (r : Registrations) (name : List ℕ) (full named : Bool)
    → r.made ≤ (after_register_asa r name (if full then Err AsasFull else if named then Err DuplicateAsa else Ok (r.made + 1))).made
counted_if r name true named = omega arith
counted_if r name false true = omega arith
counted_if r name false false = omega arith

deregister_asa_counted : (r : Registrations) (asa : ℕ) (answer : Result (Unit {0}) ApiRefused) → (after_deregister_asa r asa answer).made ≡ r.made
deregister_asa_counted r asa (Ok u) = refl
deregister_asa_counted r asa (Err e) = refl

register_objective_counted : (r : Registrations) (asa : ℕ) (name : List ℕ) (flags : ℕ) (answer : Result (Unit {0}) ApiRefused)
    → (after_register_objective r asa name flags answer).made ≡ r.made
register_objective_counted r asa name flags (Ok u) = refl
register_objective_counted r asa name flags (Err e) = refl

deregister_objective_counted : (r : Registrations) (asa : ℕ) (name : List ℕ) (answer : Result (Unit {0}) ApiRefused)
    → (after_deregister_objective r asa name answer).made ≡ r.made
deregister_objective_counted r asa name (Ok u) = refl
deregister_objective_counted r asa name (Err e) = refl

listen_counted : (r : Registrations) (name : List ℕ) (on : Bool) (answer : Result (Unit {0}) ApiRefused) → (after_listen r name on answer).made ≡ r.made
listen_counted r name on (Ok u) = refl
listen_counted r name on (Err e) = refl

offer_counted : (r : Registrations) (name : List ℕ) (value : Option DataItem) (answer : Result (Unit {0}) ApiRefused)
    → (after_offer r name value answer).made ≡ r.made
offer_counted r name value (Ok u) = refl
offer_counted r name value (Err e) = refl

pub numbers_new : (r : Registrations) → IsRegistry r → ((name : List ℕ) → IfOk (register_asa_answer r name) (IsNewNumber r)) × IsCounted r
numbers_new r is = (
  λ name. new_if r (nat_le 32 (length r.agents) || eqb r.made 4294967295) (is_agent_name r name) is,
  record {
    register_asa = λ name. counted_if r name (nat_le 32 (length r.agents) || eqb r.made 4294967295) (is_agent_name r name);
    deregister_asa = λ asa. deregister_asa_counted r asa (deregister_asa_answer r asa);
    register_objective = λ asa name flags. register_objective_counted r asa name flags (register_objective_answer r asa name flags);
    deregister_objective = λ asa name. deregister_objective_counted r asa name (deregister_objective_answer r asa name);
    listen = λ asa name on. listen_counted r name on (listen_answer r asa name);
    offer = λ asa name value. offer_counted r name value (offer_answer r asa name);
  },
)
