-- What the calls of a registry leave.
use Rattle.std.proofs.Common.{◌≡◌, ◌≢◌, ℕ, Bool, true, false, cond, List, [], ◌∷◌, map, Option, refl, sym, ◌∙◌, true≢false, arith, eq-eqb}
use Rattle.std.proofs.lemmas.Bool.{and_from, and_parts}
use Rattle.std.specs.List.{AllZip}
use Rattle.std.proofs.lemmas.Slice.Eq.{bytes_eq-Decides}
use Rattle.grasp_cbor.specs.DataItem.{DataItem}
use Rattle.grasp_types.specs.declared.refusal.ApiRefused.{ApiRefused}
use Rattle.grasp_asa.specs.declared.entry.Agent.{Agent}
use Rattle.grasp_asa.specs.declared.entry.Registered.{Registered}
use Rattle.grasp_asa.specs.Registrations.{Registrations, is_numbered, is_named, is_owned_by, is_of}
use Rattle.grasp_asa.specs.Answers.{marked, offering}
use Rattle.grasp_laws_tables.specs.Laws.{IsOf}
use Rattle.grasp_laws_tables.specs.Registering.{IsMarked, IsOffered, CallsLeave, RefusedLeave, RegistriesAreLeft}
use Rattle.grasp_laws_tables.proofs.Lists.{has_dropped}
use Rattle.grasp_laws_tables.proofs.RegistryLaws.{owner_means}

-- What the tests mean

number_means : (asa : ℕ) (agent : Agent) → is_numbered asa agent ≡ true → agent.number ≡ asa
number_means asa agent e = grind (arith, e)

of_means : (asa : ℕ) (name : List ℕ) (o : Registered) → is_of asa name o ≡ true → IsOf asa name o
of_means asa name o e =
    let h = and_parts (is_owned_by asa o) (is_named name o) e in
    (owner_means asa o h.0, (bytes_eq-Decides o.name name).0 h.1)

is_its : (asa : ℕ) (name : List ℕ) (o : Registered) → IsOf asa name o → is_of asa name o ≡ true
is_its asa name o (owner, named) = and_from (is_owned_by asa o) (is_named name o) (eq-eqb o.owner asa owner) ((bytes_eq-Decides o.name name).1 named)

-- One objective alone is changed

changed : (name : List ℕ) (f : Registered → Registered) (o : Registered)
    → (o.name ≡ name → cond (is_named name o) (f o) o ≡ f o) × (o.name ≢ name → cond (is_named name o) (f o) o ≡ o)
changed name f o = by (is_named name o) refl
  where
    by : (b : Bool) → is_named name o ≡ b → (o.name ≡ name → cond b (f o) o ≡ f o) × (o.name ≢ name → cond b (f o) o ≡ o)
    by true e = (λ _. refl, λ other. absurd (other ((bytes_eq-Decides o.name name).0 e)))
    by false e = (λ same. absurd (true≢false (sym ((bytes_eq-Decides o.name name).1 same) ∙ e)), λ _. refl)

all_marked : (name : List ℕ) (on : Bool) (os : List Registered) → AllZip (IsMarked name on) os (map (marked name on) os)
all_marked name on [] = tt
all_marked name on (o ∷ os) =
    let one = changed name (λ x. record x { listening = on }) o in
    (record { named = one.0; other = one.1 }, all_marked name on os)

all_offered : (name : List ℕ) (value : Option DataItem) (os : List Registered) → AllZip (IsOffered name value) os (map (offering name value) os)
all_offered name value [] = tt
all_offered name value (o ∷ os) =
    let one = changed name (λ x. record x { offered = value }) o in
    (record { named = one.0; other = one.1 }, all_offered name value os)

calls_leave : (r : Registrations) → CallsLeave r
calls_leave r = record {
  agent = λ name asa. refl;
  agent_alone = λ name asa. refl;
  objective = λ asa name flags. refl;
  objective_alone = λ asa name flags. refl;
  leaves = λ asa. has_dropped (is_numbered asa) (λ agent. agent.number ≡ asa) (number_means asa) (λ agent. eq-eqb agent.number asa) r.agents;
  leaves_with = λ asa. has_dropped (is_owned_by asa) (λ o. o.owner ≡ asa) (owner_means asa) (λ o. eq-eqb o.owner asa) r.objectives;
  drops = λ asa name. has_dropped (is_of asa name) (IsOf asa name) (of_means asa name) (is_its asa name) r.objectives;
  drops_alone = λ asa name. refl;
  listens = λ name on. all_marked name on r.objectives;
  listens_alone = λ name on. refl;
  offers = λ name value. all_offered name value r.objectives;
  offers_alone = λ name value. refl;
}

refused_leave : (r : Registrations) (e : ApiRefused) → RefusedLeave r e
refused_leave r e = record {
  agent = λ name. refl;
  objective = λ asa name flags. refl;
  leaves = λ asa. refl;
  drops = λ asa name. refl;
  listens = λ name on. refl;
  offers = λ name value. refl;
}

pub registries_left : RegistriesAreLeft
registries_left = record { done = calls_leave; refused = refused_leave }
