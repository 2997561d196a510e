-- Which offers are listed after a step of their node's agent.
use Rattle.std.proofs.Common.{◌≡◌, refl, sym, ap, ◌∙◌, subst, arith, ℕ, suc, ◌≤◌, ◌==◌, not, Bool, true, false, inl, inr, ◌⊎◌, List, [], ◌∷◌, filter, Contains, Option, Some, None}
use Rattle.std.proofs.lemmas.Bool.{and_parts, eqb-true, eq-eqb, not-true, and_from}
use Rattle.std.proofs.lemmas.List.Elements.{Contains-append_left, Contains-append_right, Contains-append_cases, Contains-push, Contains-push_cases}
use Rattle.std.proofs.lemmas.Option.{none-some, same_Some}
use Rattle.grasp_agent.specs.States.{AgentState, back_session, unsent_of}
use Rattle.grasp_agent.specs.declared.act.Act.{Act}
use Rattle.grasp_agent.specs.declared.act.Act.TheVariants as act
use Rattle.grasp_laws_network.proofs.Lists.{filtered}
use Rattle.grasp_laws_network.proofs.Offers.{same_prefix, prefix_itself}
use Rattle.grasp_laws_tables.proofs.Lists.{filter_keeps}
use Rattle.grasp_model_node.specs.Node.{NodeState}
use Rattle.grasp_types.specs.Prefix.{AddressBlock as Prefix}
use Rattle.grasp_types.specs.declared.session.Handle.{Handle}
use Rattle.grasp_model_network.specs.Offers.{JustOffered, is_same_prefix, is_offer_of, put_offer, talk_of_handle, just_handed, just_offered, with_offer}
use Rattle.grasp_model_network.specs.Streams.{StreamState}
use Rattle.grasp_model_network.specs.Visits.{Visit}
use Rattle.grasp_model_network.specs.World.{Offered}

-- ---- lists

pub none_in : {A : Type 0} (x : A) → Contains [] x → ⊥
none_in x h = no_less h.0 h.1 where
  no_less : (k : ℕ) → suc k ≤ 0 → ⊥
  no_less k l = omega arith

pub first_in : {A : Type 0} (x : A) (xs : List A) → Contains (x ∷ xs) x
first_in x xs = Contains-append_left (x ∷ []) xs x (Contains-push [] x)

pub more_in : {A : Type 0} (y : A) (xs : List A) (x : A) → Contains xs x → Contains (y ∷ xs) x
more_in y xs x h = Contains-append_right (y ∷ []) xs x h

pub either_in : {A : Type 0} (y : A) (xs : List A) (x : A) → Contains (y ∷ xs) x → (y ≡ x) ⊎ Contains xs x
either_in y xs x h = by_case (Contains-append_cases (y ∷ []) xs x h) where
  by_first : Contains [] x ⊎ (y ≡ x) → (y ≡ x) ⊎ Contains xs x
  by_first (inl none) = absurd (none_in x none)
  by_first (inr e) = inl e

  by_case : Contains (y ∷ []) x ⊎ Contains xs x → (y ≡ x) ⊎ Contains xs x
  by_case (inl first) = by_first (Contains-push_cases [] y x first)
  by_case (inr more) = inr more

-- ---- offers

-- `is_offer_of` is true of an offer of this prefix by this node, and false of any other
pub offer_of : (node : ℕ) (p : Prefix) (o : Offered) → o.node ≡ node → o.prefix ≡ p → is_offer_of node p o ≡ true
offer_of node p o e f = and_from (o.node == node) (is_same_prefix p o.prefix) (eq-eqb o.node node e) (prefix_itself p o.prefix (sym f))

pub no_offer_of : (node : ℕ) (p : Prefix) (o : Offered) → (o.node ≡ node → o.prefix ≡ p → ⊥) → is_offer_of node p o ≡ false
no_offer_of node p o none = by_test (is_offer_of node p o) refl where
  by_test : (b : Bool) → is_offer_of node p o ≡ b → b ≡ false
  by_test true e =
      let a = and_parts (o.node == node) (is_same_prefix p o.prefix) e in
      absurd (none (eqb-true o.node node a.0) (sym (same_prefix p o.prefix a.1)))
  by_test false e = refl

-- ---- an offer that is put in the list

abbrev offer_for : ℕ → Prefix → Option ℕ → Offered
offer_for node p talk = record { node = node; prefix = p; talk = talk }

-- what is listed then was so and isn't of this node and prefix, or it is what was put
pub put_from : (os : List Offered) (node : ℕ) (p : Prefix) (talk : Option ℕ) (o : Offered) → Contains (put_offer os node p talk) o
    → (Contains os o × (is_offer_of node p o ≡ false)) ⊎ (o ≡ offer_for node p talk)
put_from os node p talk o h = by_case (Contains-push_cases (filter (λ x. not (is_offer_of node p x)) os) (offer_for node p talk) o h) where
  by_case : Contains (filter (λ x. not (is_offer_of node p x)) os) o ⊎ (offer_for node p talk ≡ o)
      → (Contains os o × (is_offer_of node p o ≡ false)) ⊎ (o ≡ offer_for node p talk)
  by_case (inl old) = let f = filtered (λ x. not (is_offer_of node p x)) os o old in inl (f.0, not-true (is_offer_of node p o) f.1)
  by_case (inr e) = inr (sym e)

pub put_keeps : (os : List Offered) (node : ℕ) (p : Prefix) (talk : Option ℕ) (o : Offered) → Contains os o → is_offer_of node p o ≡ false → Contains (put_offer os node p talk) o
put_keeps os node p talk o h apart =
    Contains-append_left (filter (λ x. not (is_offer_of node p x)) os) (offer_for node p talk ∷ []) o
    (filter_keeps (λ x. not (is_offer_of node p x)) os o h (ap not apart))

pub put_has : (os : List Offered) (node : ℕ) (p : Prefix) (talk : Option ℕ) → Contains (put_offer os node p talk) (offer_for node p talk)
put_has os node p talk = Contains-push (filter (λ x. not (is_offer_of node p x)) os) (offer_for node p talk)

-- ---- what was just offered

module _ (ts : List StreamState) (v : Visit) (n : NodeState) where
  -- the offer that is listed for it
  abbrev pub just_listed : JustOffered → Offered
  just_listed j = record { node = v.node; prefix = j.prefix; talk = talk_of_handle ts v n j.handle }

  -- an offer that is listed was so and isn't of the prefix that was just offered, or it is what was just offered
  pub data Comes (just : Option JustOffered) (kept : List Offered) (o : Offered) : Type 0 where
    stayed : Contains kept o → ((j : JustOffered) → just ≡ Some j → is_offer_of v.node j.prefix o ≡ false) → Comes just kept o
    joined : (j : JustOffered) → just ≡ Some j → o ≡ just_listed j → Comes just kept o

  pub comes_from : (just : Option JustOffered) (kept : List Offered) (o : Offered) → Contains (with_offer kept ts v n just) o → Comes just kept o
  comes_from None kept o h = stayed h (λ j e. absurd (none-some j e))
  comes_from (Some j) kept o h = by_case (put_from kept v.node j.prefix (talk_of_handle ts v n j.handle) o h) where
    by_case : (Contains kept o × (is_offer_of v.node j.prefix o ≡ false)) ⊎ (o ≡ just_listed j) → Comes (Some j) kept o
    by_case (inl f) = stayed f.0 (λ i e. subst (λ (z : JustOffered). is_offer_of v.node z.prefix o ≡ false) (same_Some j i e) f.1)
    by_case (inr e) = joined j refl e

  pub stays_listed : (just : Option JustOffered) (kept : List Offered) (o : Offered) → Contains kept o → ((j : JustOffered) → just ≡ Some j → is_offer_of v.node j.prefix o ≡ false)
      → Contains (with_offer kept ts v n just) o
  stays_listed None kept o h apart = h
  stays_listed (Some j) kept o h apart = put_keeps kept v.node j.prefix (talk_of_handle ts v n j.handle) o h (apart j refl)

  pub joins : (just : Option JustOffered) (kept : List Offered) (j : JustOffered) → just ≡ Some j → Contains (with_offer kept ts v n just) (just_listed j)
  joins just kept j is = subst (λ x. Contains (with_offer kept ts v n x) (just_listed j)) (sym is) (put_has kept v.node j.prefix (talk_of_handle ts v n j.handle))

-- ---- what begins an offer

-- what was just offered was just decided, or it is the return whose session has just begun
pub data Begins (a b : AgentState) (j : JustOffered) : Type 0 where
  decides : a.act ≡ None → (place : ℕ) → b.act ≡ Some (act.Offer place j.handle j.prefix) → Begins a b j
  hands : unsent_of a.back ≡ Some j.prefix → back_session b.back ≡ Some j.handle → Begins a b j

pub begins : (a b : AgentState) (j : JustOffered) → just_offered a b ≡ Some j → Begins a b j
begins a b j e = by_acts a.act b.act refl refl e where
  by_parts : (x : Option Prefix) (y : Option Handle) → unsent_of a.back ≡ x → back_session b.back ≡ y → just_handed x y ≡ Some j → Begins a b j
  by_parts (Some p) (Some h) unsent session f =
      let same = same_Some (record { prefix = p; handle = h }) j f in
      hands (unsent ∙ ap (λ (z : JustOffered). Some z.prefix) same) (session ∙ ap (λ (z : JustOffered). Some z.handle) same)
  by_parts _ _ unsent session f = absurd (none-some j f)

  by_acts : (old new : Option Act) → a.act ≡ old → b.act ≡ new → just_offered (record a { act = old }) (record b { act = new }) ≡ Some j → Begins a b j
  by_acts None (Some (act.Offer place h p)) none is f =
      decides none place (is ∙ ap (λ (z : JustOffered). Some (act.Offer place z.handle z.prefix)) (same_Some (record { prefix = p; handle = h }) j f))
  by_acts _ _ none is f = by_parts (unsent_of a.back) (back_session b.back) refl refl f

-- what was just decided was just offered
pub is_just : (a b : AgentState) (place : ℕ) (h : Handle) (p : Prefix) → a.act ≡ None → b.act ≡ Some (act.Offer place h p) → just_offered a b ≡ Some (record { prefix = p; handle = h })
is_just a b place h p none is =
    ap (λ x. just_offered (record a { act = x }) b) none ∙ ap (λ x. just_offered (record a { act = None }) (record b { act = x })) is

-- and so was the return whose session has just begun, where nothing was decided with it
pub is_handed : (a b : AgentState) (h : Handle) (p : Prefix) → unsent_of a.back ≡ Some p → back_session b.back ≡ Some h → (a.act ≡ None → b.act ≡ None) → just_offered a b ≡ Some (record { prefix = p; handle = h })
is_handed a b h p unsent session alone = by_act a.act refl where
  handed : just_handed (unsent_of a.back) (back_session b.back) ≡ Some (record { prefix = p; handle = h })
  handed = ap (λ x. just_handed x (back_session b.back)) unsent ∙ ap (λ y. just_handed (Some p) y) session

  by_act : (o : Option Act) → a.act ≡ o → just_offered (record a { act = o }) b ≡ Some (record { prefix = p; handle = h })
  by_act (Some old) is = handed
  by_act None is = ap (λ x. just_offered (record a { act = None }) (record b { act = x })) (alone is) ∙ handed
