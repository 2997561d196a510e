-- Where a registry keeps an objective.
use Rattle.std.proofs.Common.{◌≡◌, ℕ, Bool, true, false, List, Option, Some, None, Ok, Err, Result, [], refl, sym, ap, ◌∙◌, subst, if◌then◌else◌}
use Rattle.std.specs.Prelude.{slice_index_or}
use Rattle.std.specs.List.{position}
use Rattle.grasp_cbor.proofs.Facts.Bools.{and_second}
use Rattle.grasp_types.specs.declared.refusal.ApiRefused.{ApiRefused}
use Rattle.grasp_types.specs.declared.refusal.ApiRefused.TheVariants.{NoAsa, NotYourObjective}
use Rattle.grasp_asa.specs.declared.entry.Registered.{Registered}
use Rattle.grasp_asa.specs.Registrations.{Registrations, is_named, is_owned_by, is_of, is_registered}
use Rattle.grasp_asa.specs.Answers.{owned_answer, owner_answer, wanted_answer}
use Rattle.grasp_asa.specs.Place.{IsPlaceOf}
use Rattle.grasp_asa.proofs.Kept.{IsNamedAt}
use Rattle.grasp_asa.proofs.Lists.{found, missed}

-- the place that was found is the objective's
pub place_found : (r : Registrations) (asa : ℕ) (name : List ℕ) (i : ℕ) → is_registered r asa ≡ true → position (is_of asa name) r.objectives ≡ Some i → IsPlaceOf r asa name i
place_found r asa name i here at =
    let it = found (is_of asa name) r.objectives i at in
    record { within = it.within; mine = it.passes; owned = λ d. rw (here, it.first d) refl }

-- an agent that isn't registered has no objective
pub none_without_agent : (r : Registrations) (asa : ℕ) (name : List ℕ) → is_registered r asa ≡ false → owned_answer r asa name ≡ Err NoAsa
none_without_agent r asa name none = rw none refl

-- where no place was found, the agent hasn't registered the name
pub none_at_place : (r : Registrations) (asa : ℕ) (name : List ℕ) → is_registered r asa ≡ true → position (is_of asa name) r.objectives ≡ None → owned_answer r asa name ≡ Err NotYourObjective
none_at_place r asa name here none = rw (here, missed (is_of asa name) r.objectives none) refl

-- the objective of an agent's name has that name
pub is_of-named : (asa : ℕ) (name : List ℕ) (o : Registered) → is_of asa name o ≡ true → is_named name o ≡ true
is_of-named asa name o h = and_second (is_owned_by asa o) (is_named name o) h

pub named_at_place : (r now : Registrations) (asa : ℕ) (name : List ℕ) (i : ℕ) → r ≡ now → IsPlaceOf now asa name i → IsNamedAt r name i
named_at_place r now asa name i same place =
    subst (λ s. IsNamedAt s name i) (sym same) (record { within = place.within; named = λ d. is_of-named asa name (slice_index_or now.objectives i d) (place.mine d) })

-- an agent's objective is there
pub owner_at_place : (r : Registrations) (asa : ℕ) (name : List ℕ) (i : ℕ) → IsPlaceOf r asa name i → owner_answer (owned_answer r asa name) ≡ Ok tt
owner_at_place r asa name i place =
    rw (place.owned (record { owner = 0; name = []; flags = 0; listening = false; offered = None })) refl

if_ok : (b : Bool) (e : ApiRefused) → ◌≡◌ {A = Result (Unit {0}) ApiRefused} (if b then Ok tt else Err e) (Ok tt) → b ≡ true
if_ok true e h = refl
if_ok false e h = absurd (cc)

wanted_if : (r : Registrations) (asa : ℕ) (name : List ℕ) (wanted : ℕ → Bool) (refused : ApiRefused) (here : Bool) (at : Option ℕ) → is_registered r asa ≡ here → position (is_of asa name) r.objectives ≡ at → wanted_answer wanted refused (owned_answer r asa name) ≡ Ok tt → (i : ℕ) × (IsPlaceOf r asa name i × ((d : Registered) → wanted (slice_index_or r.objectives i d).flags ≡ true))
wanted_if r asa name wanted refused false at h p q =
    let none : owned_answer r asa name ≡ Err NoAsa = none_without_agent r asa name h in
    let no : wanted_answer wanted refused (owned_answer r asa name) ≡ Err NoAsa = ap (wanted_answer wanted refused) none in
    absurd (cc)
wanted_if r asa name wanted refused true None h p q =
    let no : wanted_answer wanted refused (owned_answer r asa name) ≡ Err NotYourObjective = ap (wanted_answer wanted refused) (none_at_place r asa name h p) in
    absurd (cc)
wanted_if r asa name wanted refused true (Some i) h p q =
    let place = place_found r asa name i h p in
    (i, (place, λ d. if_ok (wanted (slice_index_or r.objectives i d).flags) refused (sym (ap (wanted_answer wanted refused) (place.owned d)) ∙ q)))

-- a call that was accepted has its objective, whose flags have what is wanted
pub wanted_ok : (r : Registrations) (asa : ℕ) (name : List ℕ) (wanted : ℕ → Bool) (refused : ApiRefused) → wanted_answer wanted refused (owned_answer r asa name) ≡ Ok tt → (i : ℕ) × (IsPlaceOf r asa name i × ((d : Registered) → wanted (slice_index_or r.objectives i d).flags ≡ true))
wanted_ok r asa name wanted refused q = wanted_if r asa name wanted refused _ _ refl refl q
