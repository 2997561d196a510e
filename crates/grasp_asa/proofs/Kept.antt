-- What holds of every registry is kept by each call.
use Rattle.std.proofs.Common.{◌≡◌, ◌≢◌, ℕ, zero, suc, ◌+◌, ◌<◌, ◌≤◌, Bool, true, false, not, ◌||◌, inl, inr, List, [], ◌∷◌, ◌++◌, length, get_or, Option, None, refl, sym, ap, ◌∙◌, subst, arith, length-append, eqb}
use Rattle.std.proofs.Math.ListN.{set, length-set}
use Rattle.std.specs.Prelude.{IsTrue, filter, map}
use Rattle.std.specs.List.{list_any}
use Rattle.std.proofs.lemmas.Bool.{false≢true, cases_order, false_from_ne_true}
use Rattle.std.proofs.lemmas.Slice.Eq.{bytes_eq-Decides}
use Rattle.std.proofs.lemmas.List.Elements.{All-push, All-filter, All-set, filter_passes}
use Rattle.std.proofs.lemmas.List.Folds.{list_any-append}
use Rattle.std.proofs.lemmas.List.Kept.{AllPairs-filter}
use Rattle.std.proofs.lemmas.List.Quantifiers.{all_pairs_push}
use Rattle.std.proofs.lemmas.Map.Views.{any-filter_same}
use Rattle.grasp_cbor.proofs.Facts.Lists.{length_filter}
use Rattle.grasp_cbor.specs.DataItem.{DataItem}
use Rattle.grasp_types.specs.Objective.{has_neg, has_synch}
use Rattle.grasp_asa.specs.declared.entry.Agent.{Agent}
use Rattle.grasp_asa.specs.declared.entry.Registered.{Registered}
use Rattle.grasp_asa.specs.Registrations.{Registrations, IsRegistry, IsObjective, is_numbered, is_agent_named, is_named, is_owned_by, is_registered, is_agent_name, is_taken, is_both_or_neither, is_dry_alone}
use Rattle.grasp_asa.proofs.Lists.{none_at, change, map_one}

-- a name that no agent has differs from each agent's
pub agent_apart : (xs : List Agent) (name : List ℕ) (k : ℕ) (d : Agent) → list_any (is_agent_named name) xs ≡ false → k < length xs → (get_or xs k d).name ≢ name
agent_apart xs name k d none h e =
    false≢true (sym (none_at (is_agent_named name) xs k d none h) ∙ (bytes_eq-Decides (get_or xs k d).name name).1 e)

-- a name that is not taken differs from each objective's
pub objective_apart : (xs : List Registered) (name : List ℕ) (k : ℕ) (d : Registered) → list_any (is_named name) xs ≡ false → k < length xs → (get_or xs k d).name ≢ name
objective_apart xs name k d none h e =
    false≢true (sym (none_at (is_named name) xs k d none h) ∙ (bytes_eq-Decides (get_or xs k d).name name).1 e)

-- a registered agent is registered beside another too
pub registered_more : (p : Agent → Bool) (xs ys : List Agent) → list_any p xs ≡ true → list_any p (xs ++ ys) ≡ true
registered_more p xs ys h = list_any-append p xs ys ∙ ap (λ b. b || list_any p ys) h

-- with one more agent, of the next number
pub kept_with_agent : (r : Registrations) (name : List ℕ) → IsRegistry r → length r.agents < 32 → r.made < 4294967295 → is_agent_name r name ≡ false → IsRegistry (record { agents = r.agents ++ record { number = r.made + 1; name = name } ∷ []; objectives = r.objectives; made = r.made + 1 })
kept_with_agent r name is room below apart = record {
  agents = omega (arith, length-append {A = Agent}, is.agents);
  objectives = is.objectives;
  made = omega arith;
  numbers = All-push (λ a. (1 ≤ a.number) × (a.number ≤ r.made + 1)) r.agents _ (λ k d h. let n = is.numbers k d h in (n.0, omega (arith, n.1))) (omega arith, omega arith);
  rising = all_pairs_push (λ a b. a.number < b.number) r.agents _ is.rising (λ k d h. let n = is.numbers k d h in omega (arith, n.1));
  agent_names = all_pairs_push (λ a b. a.name ≢ b.name) r.agents _ is.agent_names (λ k d h. agent_apart r.agents name k d apart h);
  objective_names = is.objective_names;
  owners = λ k d h. registered_more (is_numbered (get_or r.objectives k d).owner) r.agents _ (is.owners k d h);
  each = is.each;
}

-- with one more objective of a registered agent
pub kept_with_objective : (r : Registrations) (o : Registered) → IsRegistry r → length r.objectives < 64 → is_taken r o.name ≡ false → is_registered r o.owner ≡ true → IsObjective o → IsRegistry (record { agents = r.agents; objectives = r.objectives ++ o ∷ []; made = r.made })
kept_with_objective r o is room apart owner sound = record {
  agents = is.agents;
  objectives = omega (arith, length-append {A = Registered}, is.objectives);
  made = is.made;
  numbers = is.numbers;
  rising = is.rising;
  agent_names = is.agent_names;
  objective_names = all_pairs_push (λ a b. a.name ≢ b.name) r.objectives _ is.objective_names (λ k d h. objective_apart r.objectives o.name k d apart h);
  owners = All-push (λ a. IsTrue (is_registered r a.owner)) r.objectives o is.owners owner;
  each = All-push IsObjective r.objectives o is.each sound;
}

-- without some of the objectives
pub kept_with_fewer : (r : Registrations) (p : Registered → Bool) → IsRegistry r → IsRegistry (record { agents = r.agents; objectives = filter p r.objectives; made = r.made })
kept_with_fewer r p is = record {
  agents = is.agents;
  objectives = omega (arith, length_filter p r.objectives, is.objectives);
  made = is.made;
  numbers = is.numbers;
  rising = is.rising;
  agent_names = is.agent_names;
  objective_names = AllPairs-filter (λ a b. a.name ≢ b.name) p r.objectives is.objective_names;
  owners = All-filter p (λ a. IsTrue (is_registered r a.owner)) r.objectives is.owners;
  each = All-filter p IsObjective r.objectives is.each;
}

-- an agent of another number than the one that left is still registered
others_stay : (asa owner : ℕ) (xs : List Agent) → not (eqb owner asa) ≡ true → list_any (is_numbered owner) xs ≡ true → list_any (is_numbered owner) (filter (λ a. not (is_numbered asa a)) xs) ≡ true
others_stay asa owner xs other h =
    any-filter_same (is_numbered owner) (λ a. not (is_numbered asa a)) true (λ a e. grind (arith)) xs ∙ h

-- without this agent and its objectives
abbrev pub without_agent : ℕ → Registrations → Registrations
without_agent asa r = record { agents = filter (λ a. not (is_numbered asa a)) r.agents; objectives = filter (λ o. not (is_owned_by asa o)) r.objectives; made = r.made }

pub kept_without_agent : (r : Registrations) (asa : ℕ) → IsRegistry r → IsRegistry (without_agent asa r)
kept_without_agent r asa is =
    let owned = λ (o : Registered). not (is_owned_by asa o) in
    let fewer = kept_with_fewer r owned is in
    record {
      agents = omega (arith, length_filter (λ a. not (is_numbered asa a)) r.agents, is.agents);
      objectives = fewer.objectives;
      made = is.made;
      numbers = All-filter (λ a. not (is_numbered asa a)) (λ a. (1 ≤ a.number) × (a.number ≤ r.made)) r.agents is.numbers;
      rising = AllPairs-filter (λ a b. a.number < b.number) (λ a. not (is_numbered asa a)) r.agents is.rising;
      agent_names = AllPairs-filter (λ a b. a.name ≢ b.name) (λ a. not (is_numbered asa a)) r.agents is.agent_names;
      objective_names = fewer.objective_names;
      owners = λ k d h. others_stay asa (get_or (filter owned r.objectives) k d).owner r.agents (filter_passes owned r.objectives k d h) (fewer.owners k d h);
      each = fewer.each;
    }

-- no other objective has the name of the one at this place
pub named_once : (r : Registrations) (name : List ℕ) (i : ℕ) → IsRegistry r → i < length r.objectives → ((d : Registered) → is_named name (get_or r.objectives i d) ≡ true) → (j : ℕ) (e : Registered) → j < length r.objectives → j ≢ i → is_named name (get_or r.objectives j e) ≡ false
named_once r name i is h t j e k other =
    let xs = r.objectives in
    false_from_ne_true (is_named name (get_or xs j e)) (λ s.
    let here : (get_or xs i e).name ≡ name = (bytes_eq-Decides (get_or xs i e).name name).0 (t e) in
    let there : (get_or xs j e).name ≡ name = (bytes_eq-Decides (get_or xs j e).name name).0 s in
    elim (cases_order i j) as (λ _. ⊥) [
      | inl q ↦ other (sym q)
      | inr q ↦ elim q as (λ _. ⊥) [
        | inl before ↦ is.objective_names i j e before k (here ∙ sym there)
        | inr after ↦ is.objective_names j i e after h (there ∙ sym here)
      ]
    ])

-- a write of an element of the same name leaves each name
name_at : (xs : List Registered) (i j : ℕ) (o d e : Registered) → o.name ≡ (get_or xs i d).name → j < length xs → (get_or (set xs i o) j e).name ≡ (get_or xs j e).name
name_at [] i j o d e q h = absurd (omega arith)
name_at (x ∷ xs) zero zero o d e q h = q
name_at (x ∷ xs) zero (suc j) o d e q h = refl
name_at (x ∷ xs) (suc i) zero o d e q h = refl
name_at (x ∷ xs) (suc i) (suc j) o d e q h = name_at xs i j o d e q (omega arith)

-- with another mark or another value of the objective at one place
pub kept_with_change : (r : Registrations) (i : ℕ) (o d : Registered) → IsRegistry r → o.name ≡ (get_or r.objectives i d).name → o.owner ≡ (get_or r.objectives i d).owner → i < length r.objectives → IsObjective o → IsRegistry (record { agents = r.agents; objectives = set r.objectives i o; made = r.made })
kept_with_change r i o d is name owner within sound =
    let xs = r.objectives in
    let len : length (set xs i o) ≡ length xs = length-set xs i o in
    let same = λ (j : ℕ) (e : Registered) (k : j < length xs). name_at xs i j o d e name k in
    record {
      agents = is.agents;
      objectives = omega (arith, len, is.objectives);
      made = is.made;
      numbers = is.numbers;
      rising = is.rising;
      agent_names = is.agent_names;
      objective_names = λ j k e before h. rw (same j e (omega arith), same k e (omega arith)) (is.objective_names j k e before (omega arith));
      owners = All-set (λ a. IsTrue (is_registered r a.owner)) xs i o (rw owner (is.owners i d within)) is.owners;
      each = All-set IsObjective xs i o sound is.each;
    }

-- the registrations with these objectives in place of their own
abbrev pub with_objectives : Registrations → List Registered → Registrations
with_objectives r xs = record { agents = r.agents; objectives = xs; made = r.made }

-- what stands at a place
pub at_place : (xs : List Registered) (i : ℕ) (d e : Registered) → i < length xs → get_or xs i d ≡ get_or xs i e
at_place [] i d e h = absurd (omega arith)
at_place (x ∷ xs) zero d e h = refl
at_place (x ∷ xs) (suc i) d e h = at_place xs i d e (omega arith)

-- the place is one of the list, and its objective has the name
pub record IsNamedAt (r : Registrations) (name : List ℕ) (i : ℕ) : Type 0 where
  pub within : i < length r.objectives
  pub named : (d : Registered) → is_named name (get_or r.objectives i d) ≡ true

-- the objective that stands at the place, found twice
pub record StandsAt (r : Registrations) (i : ℕ) (a b : Registered) : Type 0 where
  pub read : a ≡ get_or r.objectives i a
  pub written : b ≡ get_or r.objectives i b

same_at : (r : Registrations) (i : ℕ) (a b : Registered) → i < length r.objectives → StandsAt r i a b → a ≡ b
same_at r i a b within at = at.read ∙ (at_place r.objectives i a b within ∙ sym at.written)

-- an objective for negotiation may be listened for
sound_listening : (o : Registered) (on : Bool) → IsObjective o → has_neg o.flags ≡ true → IsObjective (record o { listening = on })
sound_listening o on sound neg = record { one_use = sound.one_use; dry = sound.dry; listening = λ _. neg; offered = sound.offered }

-- a value may be offered of an objective for synchronization
sound_offering : (o : Registered) (value : Option DataItem) → IsObjective o → has_synch o.flags ≡ true → IsObjective (record o { offered = value })
sound_offering o value sound synch = record { one_use = sound.one_use; dry = sound.dry; listening = sound.listening; offered = λ _. synch }

sound_at : (r : Registrations) (i : ℕ) (b : Registered) → IsRegistry r → i < length r.objectives → b ≡ get_or r.objectives i b → IsObjective b
sound_at r i b is within at = subst IsObjective (sym at) (is.each i b within)

-- an objective for negotiation is listened for, or no more
pub kept_listening : (r : Registrations) (name : List ℕ) (i : ℕ) (a b : Registered) (on : Bool) → IsRegistry r → IsNamedAt r name i → StandsAt r i a b → has_neg a.flags ≡ true → IsRegistry (with_objectives r (set r.objectives i (record b { listening = on })))
kept_listening r name i a b on is place at neg =
    let neg_b : has_neg b.flags ≡ true = ap (λ o. has_neg o.flags) (sym (same_at r i a b place.within at)) ∙ neg in
    kept_with_change r i (record b { listening = on }) b is (ap (λ o. o.name) at.written) (ap (λ o. o.owner) at.written) place.within (sound_listening b on (sound_at r i b is place.within at.written) neg_b)

-- a value of an objective for synchronization is offered, or no more
pub kept_offering : (r : Registrations) (name : List ℕ) (i : ℕ) (a b : Registered) (value : Option DataItem) → IsRegistry r → IsNamedAt r name i → StandsAt r i a b → has_synch a.flags ≡ true → IsRegistry (with_objectives r (set r.objectives i (record b { offered = value })))
kept_offering r name i a b value is place at synch =
    let synch_b : has_synch b.flags ≡ true = ap (λ o. has_synch o.flags) (sym (same_at r i a b place.within at)) ∙ synch in
    kept_with_change r i (record b { offered = value }) b is (ap (λ o. o.name) at.written) (ap (λ o. o.owner) at.written) place.within (sound_offering b value (sound_at r i b is place.within at.written) synch_b)

-- the one write is the change of the objective of that name
pub change_at : (r : Registrations) (name : List ℕ) (f : Registered → Registered) (i : ℕ) (a b : Registered) → IsRegistry r → IsNamedAt r name i → StandsAt r i a b → with_objectives r (set r.objectives i (f b)) ≡ with_objectives r (map (change (is_named name) f) r.objectives)
change_at r name f i a b is place at =
    let one = map_one (is_named name) f r.objectives i b (named_once r name i is place.within place.named) place.within (place.named b) in
    ap (with_objectives r) (ap (λ o. set r.objectives i (f o)) at.written ∙ sym one)

-- a new objective of sound flags
pub sound_new : (asa : ℕ) (name : List ℕ) (flags : ℕ) → is_both_or_neither flags ≡ false → is_dry_alone flags ≡ false → IsObjective (record { owner = asa; name = name; flags = flags; listening = false; offered = None })
sound_new asa name flags both dry = record {
  one_use = ap not both;
  dry = ap not dry;
  listening = λ t. absurd (false≢true t);
  offered = λ t. absurd (false≢true t);
}
