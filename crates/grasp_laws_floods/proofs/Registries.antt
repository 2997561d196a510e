-- Registered flags are flags: what calls on a registry leave.
use Rattle.std.proofs.Common.{ℕ, ◌≤◌, Bool, true, false, cond, not, List, [], ◌∷◌, map, All, Option, Some, None, Result, Ok, Err, arith}
use Rattle.std.specs.Prelude.{find, option_map}
use Rattle.std.proofs.lemmas.List.Elements.{All-cons, All-filter, All-head, All-tail, All-push}
use Rattle.grasp_asa.specs.Answers.{after_register_asa, after_deregister_asa, after_register_objective, after_deregister_objective, marked, after_listen, offering, after_offer}
use Rattle.grasp_asa.specs.Registrations.{Registrations, is_owned_by, is_of, is_named}
use Rattle.grasp_asa.specs.declared.entry.Registered.{Registered}
use Rattle.grasp_cbor.specs.DataItem.{DataItem}
use Rattle.grasp_model_node.specs.SessionCalls.{flags_or}
use Rattle.grasp_types.specs.declared.refusal.ApiRefused.{ApiRefused}

-- the flags of a registered objective are below 16
abbrev pub HasFlags : Registered → Type 0
HasFlags o = o.flags ≤ 15

abbrev pub AllHaveFlags : Registrations → Type 0
AllHaveFlags r = All HasFlags r.objectives

map_flags : (f : Registered → Registered) (os : List Registered) → ((o : Registered) → HasFlags o → HasFlags (f o)) → All HasFlags os → All HasFlags (map f os)
map_flags f [] keep all = all
map_flags f (o ∷ os) keep all =
    All-cons HasFlags (f o) (map f os) (keep o (All-head HasFlags o os all)) (map_flags f os keep (All-tail HasFlags o os all))

marked_flags : (name : List ℕ) (on : Bool) (o : Registered) → HasFlags o → HasFlags (marked name on o)
marked_flags name on o h = by_test (is_named name o) where
  by_test : (b : Bool) → HasFlags (cond b (record o { listening = on }) o)
  by_test true = h
  by_test false = h

offering_flags : (name : List ℕ) (value : Option DataItem) (o : Registered) → HasFlags o → HasFlags (offering name value o)
offering_flags name value o h = by_test (is_named name o) where
  by_test : (b : Bool) → HasFlags (cond b (record o { offered = value }) o)
  by_test true = h
  by_test false = h

-- ---- each call

pub agent_flags : (r : Registrations) (name : List ℕ) (a : Result ℕ ApiRefused) → AllHaveFlags r → AllHaveFlags (after_register_asa r name a)
agent_flags r name (Ok asa) all = all
agent_flags r name (Err e) all = all

pub leaving_flags : (r : Registrations) (asa : ℕ) (a : Result (Unit {0}) ApiRefused) → AllHaveFlags r → AllHaveFlags (after_deregister_asa r asa a)
leaving_flags r asa (Ok u) all = All-filter (λ o. not (is_owned_by asa o)) HasFlags r.objectives all
leaving_flags r asa (Err e) all = all

pub objective_flags : (r : Registrations) (asa : ℕ) (name : List ℕ) (flags : ℕ) (a : Result (Unit {0}) ApiRefused) → flags ≤ 15 → AllHaveFlags r
    → AllHaveFlags (after_register_objective r asa name flags a)
objective_flags r asa name flags (Ok u) h all = All-push HasFlags r.objectives (record { owner = asa; name = name; flags = flags; listening = false; offered = None }) all h
objective_flags r asa name flags (Err e) h all = all

pub dropping_flags : (r : Registrations) (asa : ℕ) (name : List ℕ) (a : Result (Unit {0}) ApiRefused) → AllHaveFlags r → AllHaveFlags (after_deregister_objective r asa name a)
dropping_flags r asa name (Ok u) all = All-filter (λ o. not (is_of asa name o)) HasFlags r.objectives all
dropping_flags r asa name (Err e) all = all

pub listen_flags : (r : Registrations) (name : List ℕ) (on : Bool) (a : Result (Unit {0}) ApiRefused) → AllHaveFlags r → AllHaveFlags (after_listen r name on a)
listen_flags r name on (Ok u) all = map_flags (marked name on) r.objectives (marked_flags name on) all
listen_flags r name on (Err e) all = all

pub offer_flags : (r : Registrations) (name : List ℕ) (value : Option DataItem) (a : Result (Unit {0}) ApiRefused) → AllHaveFlags r → AllHaveFlags (after_offer r name value a)
offer_flags r name value (Ok u) all = map_flags (offering name value) r.objectives (offering_flags name value) all
offer_flags r name value (Err e) all = all

-- ---- the flags that are found

zero_least : 0 ≤ 15
zero_least = omega arith

pub found_flags : (p : Registered → Bool) (os : List Registered) → All HasFlags os → flags_or (option_map (λ (x : Registered). x.flags) (find p os)) ≤ 15
found_flags p [] all = zero_least
found_flags p (o ∷ os) all = by_test (p o) (found_flags p os (All-tail HasFlags o os all)) where
  by_test : (b : Bool) → flags_or (option_map (λ (x : Registered). x.flags) (find p os)) ≤ 15 → flags_or (option_map (λ (x : Registered). x.flags) (cond b (Some o) (find p os))) ≤ 15
  by_test true rest = All-head HasFlags o os all
  by_test false rest = rest
