-- What is registered has flags and values within their ranges: what calls on a registry leave.
use Rattle.std.proofs.Common.{◌≡◌, refl, subst, ℕ, ◌≤◌, Bool, true, false, cond, not, List, [], ◌∷◌, map, filter, All, Option, Some, None, Result, Ok, Err, arith}
use Rattle.std.specs.Prelude.{IfSome, find, option_map}
use Rattle.std.proofs.lemmas.List.Elements.{All-cons, All-head, All-tail, All-push}
use Rattle.std.proofs.lemmas.Option.{none-some}
use Rattle.grasp_asa.specs.Answers.{offer_of, value_offered, after_register_asa, after_deregister_asa, after_register_objective, after_deregister_objective, marked, after_listen, offering, after_offer}
use Rattle.grasp_asa.specs.Registrations.{Registrations, is_owned_by, is_of, is_named}
use Rattle.grasp_asa.specs.declared.entry.Registered.{Registered}
use Rattle.grasp_cbor.specs.DataItem.{DataItem}
use Rattle.grasp_model_node.specs.SessionCalls.{flags_or}
use Rattle.grasp_types.specs.Objective.{IsValue}
use Rattle.grasp_types.specs.declared.refusal.ApiRefused.{ApiRefused}

-- a registered objective has flags below 16, and where it is offered with a value, one that is within its ranges
pub record IsEntry (o : Registered) : Type 0 where
  pub flags : o.flags ≤ 15
  pub offered : IfSome o.offered IsValue

abbrev pub AreEntered : Registrations → Type 0
AreEntered r = All IsEntry r.objectives

filter_entered : (p : Registered → Bool) (os : List Registered) → All IsEntry os → All IsEntry (filter p os)
filter_entered p [] all = all
filter_entered p (o ∷ os) all = by_test (p o) (filter_entered p os (All-tail IsEntry o os all)) where
  by_test : (b : Bool) → All IsEntry (filter p os) → All IsEntry (cond b (o ∷ filter p os) (filter p os))
  by_test true rest = All-cons IsEntry o (filter p os) (All-head IsEntry o os all) rest
  by_test false rest = rest

map_entered : (f : Registered → Registered) (os : List Registered) → ((o : Registered) → IsEntry o → IsEntry (f o)) → All IsEntry os → All IsEntry (map f os)
map_entered f [] keep all = all
map_entered f (o ∷ os) keep all =
    All-cons IsEntry (f o) (map f os) (keep o (All-head IsEntry o os all)) (map_entered f os keep (All-tail IsEntry o os all))

marked_entered : (name : List ℕ) (on : Bool) (o : Registered) → IsEntry o → IsEntry (marked name on o)
marked_entered name on o h = by_test (is_named name o) where
  by_test : (b : Bool) → IsEntry (cond b (record o { listening = on }) o)
  by_test true = record { flags = h.flags; offered = h.offered }
  by_test false = h

offering_entered : (name : List ℕ) (value : Option DataItem) → IfSome value IsValue → (o : Registered) → IsEntry o → IsEntry (offering name value o)
offering_entered name value is o h = by_test (is_named name o) where
  by_test : (b : Bool) → IsEntry (cond b (record o { offered = value }) o)
  by_test true = record { flags = h.flags; offered = is }
  by_test false = h

-- ---- each call

pub agent_entered : (r : Registrations) (name : List ℕ) (a : Result ℕ ApiRefused) → AreEntered r → AreEntered (after_register_asa r name a)
agent_entered r name (Ok asa) all = all
agent_entered r name (Err e) all = all

pub leaving_entered : (r : Registrations) (asa : ℕ) (a : Result (Unit {0}) ApiRefused) → AreEntered r → AreEntered (after_deregister_asa r asa a)
leaving_entered r asa (Ok u) all = filter_entered (λ o. not (is_owned_by asa o)) r.objectives all
leaving_entered r asa (Err e) all = all

pub objective_entered : (r : Registrations) (asa : ℕ) (name : List ℕ) (flags : ℕ) (a : Result (Unit {0}) ApiRefused) → flags ≤ 15 → AreEntered r
    → AreEntered (after_register_objective r asa name flags a)
objective_entered r asa name flags (Ok u) h all = All-push IsEntry r.objectives (record { owner = asa; name = name; flags = flags; listening = false; offered = None }) all (record { flags = h; offered = tt })
objective_entered r asa name flags (Err e) h all = all

pub dropping_entered : (r : Registrations) (asa : ℕ) (name : List ℕ) (a : Result (Unit {0}) ApiRefused) → AreEntered r → AreEntered (after_deregister_objective r asa name a)
dropping_entered r asa name (Ok u) all = filter_entered (λ o. not (is_of asa name o)) r.objectives all
dropping_entered r asa name (Err e) all = all

pub listen_entered : (r : Registrations) (name : List ℕ) (on : Bool) (a : Result (Unit {0}) ApiRefused) → AreEntered r → AreEntered (after_listen r name on a)
listen_entered r name on (Ok u) all = map_entered (marked name on) r.objectives (marked_entered name on) all
listen_entered r name on (Err e) all = all

pub offer_entered : (r : Registrations) (name : List ℕ) (value : Option DataItem) (a : Result (Unit {0}) ApiRefused) → IfSome value IsValue → AreEntered r → AreEntered (after_offer r name value a)
offer_entered r name value (Ok u) is all = map_entered (offering name value) r.objectives (offering_entered name value is) all
offer_entered r name value (Err e) is all = all

-- ---- the flags that are found

zero_least : 0 ≤ 15
zero_least = omega arith

pub found_entered : (p : Registered → Bool) (os : List Registered) → All IsEntry os → flags_or (option_map (λ (x : Registered). x.flags) (find p os)) ≤ 15
found_entered p [] all = zero_least
found_entered p (o ∷ os) all = by_test (p o) (found_entered p os (All-tail IsEntry o os all)) where
  by_test : (b : Bool) → flags_or (option_map (λ (x : Registered). x.flags) (find p os)) ≤ 15 → flags_or (option_map (λ (x : Registered). x.flags) (cond b (Some o) (find p os))) ≤ 15
  by_test true rest = (All-head IsEntry o os all).flags
  by_test false rest = rest

-- the value that is offered is one
offered_is : (o : Option Registered) → ((x : Registered) → o ≡ Some x → IsEntry x) → IfSome (offer_of o) IsValue
offered_is None k = tt
offered_is (Some x) k = (k x refl).offered

found_entry : (p : Registered → Bool) (os : List Registered) → All IsEntry os → (x : Registered) → find p os ≡ Some x → IsEntry x
found_entry p [] all x e = absurd (none-some x e)
found_entry p (o ∷ os) all x e = by_test (p o) e (found_entry p os (All-tail IsEntry o os all) x) where
  by_test : (b : Bool) → cond b (Some o) (find p os) ≡ Some x → (find p os ≡ Some x → IsEntry x) → IsEntry x
  by_test true f rest = subst IsEntry (some_is o x f) (All-head IsEntry o os all) where
    some_is : (a b : Registered) → Some a ≡ Some b → a ≡ b
    some_is a b g = cc
  by_test false f rest = rest f

pub value_is : (r : Registrations) (name : List ℕ) → AreEntered r → IfSome (value_offered r name) IsValue
value_is r name all = offered_is (find (is_named name) r.objectives) (found_entry (is_named name) r.objectives all)
