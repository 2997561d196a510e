-- Each call keeps what holds of every registry.
use Rattle.std.proofs.Common.{◌≡◌, ◌≢◌, ◌^◌, ℕ, ◌+◌, ◌<◌, Bool, true, false, not, ◌||◌, List, [], length, get_or, Option, None, Result, Ok, Err, nat_le, eqb, if◌then◌else◌, refl, subst, arith, rules, tests, lit<}
use Rattle.std.proofs.lemmas.Bool.{or_parts}
use Rattle.grasp_cbor.specs.DataItem.{DataItem}
use Rattle.grasp_types.specs.Objective.{has_neg, has_synch}
use Rattle.grasp_types.specs.declared.refusal.ApiRefused.{ApiRefused}
use Rattle.grasp_types.specs.declared.refusal.ApiRefused.TheVariants.{NoAsa, AsasFull, DuplicateAsa, NotBoth, ObjectivesFull, ObjectiveTaken, NotNegotiable, NotSynchronizable, NotDry}
use Rattle.grasp_asa.specs.declared.entry.Registered.{Registered}
use Rattle.grasp_asa.specs.Registrations.{Registrations, IsRegistry, is_registered, is_agent_name, is_taken, is_both_or_neither, is_dry_alone, is_of}
use Rattle.grasp_asa.specs.Answers.{nothing_registered, after_register_asa, after_deregister_asa, after_register_objective, after_deregister_objective, listen_answer, after_listen, offer_answer, after_offer}
use Rattle.grasp_laws_tables.specs.Laws.{IsKept, RegistryIsKept}
use Rattle.grasp_asa.proofs.Kept.{kept_with_agent, kept_without_agent, kept_with_objective, kept_with_fewer, kept_listening, kept_offering, change_at, sound_new, StandsAt, at_place}
use Rattle.grasp_asa.proofs.Places.{named_at_place, wanted_ok}

-- an empty registry
kept_first : IsRegistry nothing_registered
kept_first = record {
  agents = omega arith;
  objectives = omega arith;
  made = lit< tt;
  numbers = λ k d h. absurd (omega arith);
  rising = λ i j d h k. absurd (omega arith);
  agent_names = λ i j d h k. absurd (omega arith);
  objective_names = λ i j d h k. absurd (omega arith);
  owners = λ k d h. absurd (omega arith);
  each = λ k d h. absurd (omega arith);
}

-- a count below 2 ^ 32 that isn't the greatest
below_most : (n : ℕ) → n < 2 ^ 32 → eqb n 4294967295 ≡ false → n < 4294967295
below_most n h q =
    let other : n ≢ 4294967295 = search (rules, tests) in
    omega arith

register_asa_if : (r : Registrations) (name : List ℕ) (full named : Bool) → IsRegistry r → (nat_le 32 (length r.agents) || eqb r.made 4294967295) ≡ full → is_agent_name r name ≡ named → IsRegistry (after_register_asa r name (if full then Err AsasFull else if named then Err DuplicateAsa else Ok (r.made + 1)))
register_asa_if r name true named is f n = is
register_asa_if r name false true is f n = is
register_asa_if r name false false is f n =
    let parts = or_parts (nat_le 32 (length r.agents)) (eqb r.made 4294967295) f in
    let room : length r.agents < 32 = search (rules, tests) in
    let below : r.made < 4294967295 = below_most r.made is.made parts.1 in
    kept_with_agent r name is room below n

deregister_asa_if : (r : Registrations) (asa : ℕ) (answer : Result (Unit {0}) ApiRefused) → IsRegistry r → IsRegistry (after_deregister_asa r asa answer)
deregister_asa_if r asa (Ok u) is = kept_without_agent r asa is
deregister_asa_if r asa (Err e) is = is

register_objective_if : (r : Registrations) (asa : ℕ) (name : List ℕ) (flags : ℕ) (here both full taken dry : Bool) → IsRegistry r → is_registered r asa ≡ here → is_both_or_neither flags ≡ both → nat_le 64 (length r.objectives) ≡ full → is_taken r name ≡ taken → is_dry_alone flags ≡ dry → IsRegistry (after_register_objective r asa name flags (if not here then Err NoAsa else if both then Err NotBoth else if full then Err ObjectivesFull else if taken then Err ObjectiveTaken else if dry then Err NotDry else Ok tt))
register_objective_if r asa name flags true false false false false is h b f t d =
    let room : length r.objectives < 64 = search (rules, tests) in
    kept_with_objective r (record { owner = asa; name = name; flags = flags; listening = false; offered = None }) is room t h (sound_new asa name flags b d)
register_objective_if r asa name flags _ _ _ _ _ is h b f t d = is

deregister_objective_if : (r : Registrations) (asa : ℕ) (name : List ℕ) (answer : Result (Unit {0}) ApiRefused) → IsRegistry r → IsRegistry (after_deregister_objective r asa name answer)
deregister_objective_if r asa name (Ok u) is = kept_with_fewer r (λ o. not (is_of asa name o)) is
deregister_objective_if r asa name (Err e) is = is

-- any objective will do
some_objective : Registered
some_objective = record { owner = 0; name = []; flags = 0; listening = false; offered = None }

listen_if : (r : Registrations) (asa : ℕ) (name : List ℕ) (on : Bool) (answer : Result (Unit {0}) ApiRefused) → IsRegistry r → listen_answer r asa name ≡ answer → IsRegistry (after_listen r name on answer)
listen_if r asa name on (Err e) is q = is
listen_if r asa name on (Ok u) is q =
    let it = wanted_ok r asa name has_neg NotNegotiable q in
    let i = it.0 in
    let o = get_or r.objectives i some_objective in
    let place = named_at_place r r asa name i refl it.1.0 in
    let stands = at_place r.objectives i some_objective o place.within in
    let at : StandsAt r i o o = record { read = stands; written = stands } in
    subst IsRegistry (change_at r name (λ x. record x { listening = on }) i o o is place at) (kept_listening r name i o o on is place at (it.1.1 some_objective))

offer_if : (r : Registrations) (asa : ℕ) (name : List ℕ) (value : Option DataItem) (answer : Result (Unit {0}) ApiRefused) → IsRegistry r → offer_answer r asa name ≡ answer → IsRegistry (after_offer r name value answer)
offer_if r asa name value (Err e) is q = is
offer_if r asa name value (Ok u) is q =
    let it = wanted_ok r asa name has_synch NotSynchronizable q in
    let i = it.0 in
    let o = get_or r.objectives i some_objective in
    let place = named_at_place r r asa name i refl it.1.0 in
    let stands = at_place r.objectives i some_objective o place.within in
    let at : StandsAt r i o o = record { read = stands; written = stands } in
    subst IsRegistry (change_at r name (λ x. record x { offered = value }) i o o is place at) (kept_offering r name i o o value is place at (it.1.1 some_objective))

kept_by_each : (r : Registrations) → IsRegistry r → IsKept r
kept_by_each r is = record {
  register_asa = λ name. register_asa_if r name _ _ is refl refl;
  deregister_asa = λ asa. deregister_asa_if r asa _ is;
  register_objective = λ asa name flags. register_objective_if r asa name flags _ _ _ _ _ is refl refl refl refl refl;
  deregister_objective = λ asa name. deregister_objective_if r asa name _ is;
  listen = λ asa name on. listen_if r asa name on _ is refl;
  offer = λ asa name value. offer_if r asa name value _ is refl;
}

pub registry_kept : RegistryIsKept
registry_kept = record { first = kept_first; kept = kept_by_each }
