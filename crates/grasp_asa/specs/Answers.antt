-- What each call on a registry answers, and what is registered after it.
--
-- Where several refusals hold, the one of the least number is answered. A refused call changes nothing.
use Rattle.std.specs.Prelude.{ℕ, ◌+◌, Bool, false, not, ◌&&◌, ◌||◌, ◌==◌, nat_le, if◌then◌else◌, List, [], ◌∷◌, ◌++◌, length, map, Option, Some, None, Result, Ok, Err, option_map, filter, find, ok_or}
use Rattle.grasp_cbor.specs.DataItem.{DataItem}
use Rattle.grasp_types.specs.Objective.{has_neg, has_synch}
use Rattle.grasp_types.specs.declared.refusal.ApiRefused.{ApiRefused}
use Rattle.grasp_types.specs.declared.refusal.ApiRefused.TheVariants.{NoAsa, AsasFull, DuplicateAsa, NotBoth, ObjectivesFull, ObjectiveTaken, NotYourObjective, NotNegotiable, NotSynchronizable, NotDry}
use Rattle.grasp_asa.specs.declared.entry.Registered.{Registered}
use Rattle.grasp_asa.specs.Registrations.{Registrations, is_numbered, is_named, is_owned_by, is_of, is_registered, is_agent_name, is_taken, is_both_or_neither, is_dry_alone}

-- nothing is registered, and nothing ever was
abbrev pub nothing_registered : Registrations
nothing_registered = record { agents = []; objectives = []; made = 0 }

-- the number of the new agent
abbrev pub register_asa_answer : Registrations → List ℕ → Result ℕ ApiRefused
register_asa_answer r name =
    if nat_le 32 (length r.agents) || r.made == 4294967295 then Err AsasFull
    else if is_agent_name r name then Err DuplicateAsa
    else Ok (r.made + 1)

-- the new agent comes last
abbrev pub after_register_asa : Registrations → List ℕ → Result ℕ ApiRefused → Registrations
after_register_asa r name (Ok asa) = record r { agents = r.agents ++ record { number = asa; name = name } ∷ []; made = asa }
after_register_asa r name (Err _) = r

abbrev pub deregister_asa_answer : Registrations → ℕ → Result (Unit {0}) ApiRefused
deregister_asa_answer r asa = if is_registered r asa then Ok tt else Err NoAsa

-- the agent leaves, and so do its objectives; how many were ever registered stays
abbrev pub after_deregister_asa : Registrations → ℕ → Result (Unit {0}) ApiRefused → Registrations
after_deregister_asa r asa (Ok _) = record r { agents = filter (λ a. not (is_numbered asa a)) r.agents; objectives = filter (λ o. not (is_owned_by asa o)) r.objectives }
after_deregister_asa r asa (Err _) = r

abbrev pub register_objective_answer : Registrations → ℕ → List ℕ → ℕ → Result (Unit {0}) ApiRefused
register_objective_answer r asa name flags =
    if not (is_registered r asa) then Err NoAsa
    else if is_both_or_neither flags then Err NotBoth
    else if nat_le 64 (length r.objectives) then Err ObjectivesFull
    else if is_taken r name then Err ObjectiveTaken
    else if is_dry_alone flags then Err NotDry
    else Ok tt

-- the new objective comes last; it is not listened for, and no value is offered
abbrev pub after_register_objective : Registrations → ℕ → List ℕ → ℕ → Result (Unit {0}) ApiRefused → Registrations
after_register_objective r asa name flags (Ok _) = record r { objectives = r.objectives ++ record { owner = asa; name = name; flags = flags; listening = false; offered = None } ∷ [] }
after_register_objective r asa name flags (Err _) = r

-- the flags of this agent's objective
abbrev pub owned_answer : Registrations → ℕ → List ℕ → Result ℕ ApiRefused
owned_answer r asa name =
    if not (is_registered r asa) then Err NoAsa
    else ok_or (option_map (λ o. o.flags) (find (is_of asa name) r.objectives)) NotYourObjective

-- refused exactly where `owned` is
abbrev pub owner_answer : Result ℕ ApiRefused → Result (Unit {0}) ApiRefused
owner_answer (Err e) = Err e
owner_answer (Ok _) = Ok tt

abbrev pub deregister_objective_answer : Registrations → ℕ → List ℕ → Result (Unit {0}) ApiRefused
deregister_objective_answer r asa name = owner_answer (owned_answer r asa name)

-- after a deregistration that isn't refused, the objective is gone, with its mark and its value
abbrev pub after_deregister_objective : Registrations → ℕ → List ℕ → Result (Unit {0}) ApiRefused → Registrations
after_deregister_objective r asa name (Ok _) = record r { objectives = filter (λ o. not (is_of asa name o)) r.objectives }
after_deregister_objective r asa name (Err _) = r

-- refused as `owned` is, and then where the flags don't have what is wanted
abbrev pub wanted_answer : (ℕ → Bool) → ApiRefused → Result ℕ ApiRefused → Result (Unit {0}) ApiRefused
wanted_answer wanted refused (Err e) = Err e
wanted_answer wanted refused (Ok flags) = if wanted flags then Ok tt else Err refused

abbrev pub listen_answer : Registrations → ℕ → List ℕ → Result (Unit {0}) ApiRefused
listen_answer r asa name = wanted_answer has_neg NotNegotiable (owned_answer r asa name)

-- the objective of this name, listened for or not; each other objective is as it was
abbrev pub marked : List ℕ → Bool → Registered → Registered
marked name on o = if is_named name o then record o { listening = on } else o

abbrev pub after_listen : Registrations → List ℕ → Bool → Result (Unit {0}) ApiRefused → Registrations
after_listen r name on (Ok _) = record r { objectives = map (marked name on) r.objectives }
after_listen r name on (Err _) = r

abbrev pub offer_answer : Registrations → ℕ → List ℕ → Result (Unit {0}) ApiRefused
offer_answer r asa name = wanted_answer has_synch NotSynchronizable (owned_answer r asa name)

-- the objective of this name with this value, or with none; each other objective is as it was
abbrev pub offering : List ℕ → Option DataItem → Registered → Registered
offering name value o = if is_named name o then record o { offered = value } else o

abbrev pub after_offer : Registrations → List ℕ → Option DataItem → Result (Unit {0}) ApiRefused → Registrations
after_offer r name value (Ok _) = record r { objectives = map (offering name value) r.objectives }
after_offer r name value (Err _) = r

-- the flags under which the name is registered at this node
abbrev pub flags_registered : Registrations → List ℕ → Option ℕ
flags_registered r name = option_map (λ o. o.flags) (find (is_named name) r.objectives)

-- the agent that listens for the objective of this name
abbrev pub listener_of : Registrations → List ℕ → Option ℕ
listener_of r name = option_map (λ o. o.owner) (find (λ o. is_named name o && o.listening) r.objectives)

abbrev pub offer_of : Option Registered → Option DataItem
offer_of None = None
offer_of (Some o) = o.offered

-- the value that the objective of this name is offered with
abbrev pub value_offered : Registrations → List ℕ → Option DataItem
value_offered r name = offer_of (find (is_named name) r.objectives)

-- the names of this agent's objectives, in the order of their registration
abbrev pub names_of : Registrations → ℕ → List (List ℕ)
names_of r asa = map (λ o. o.name) (filter (is_owned_by asa) r.objectives)
