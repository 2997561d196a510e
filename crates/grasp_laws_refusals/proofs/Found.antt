-- Tests of a node, each with the fact that it tells.
use Rattle.std.proofs.Common.{◌≡◌, ◌≢◌, ◌≤◌, ◌<◌, ◌^◌, ◌-◌, ◌+◌, ◌==◌, ◌⊎◌, inl, inr, nat_le, ℕ, Bool, true, false, cond, not, List, [], ◌∷◌, length, Option, None, Some, is_none, refl, sym, ap, ◌∙◌, subst, arith}
use Rattle.std.specs.Bool.{Decides}
use Rattle.std.specs.List.{Any, list_any, find, position}
use Rattle.std.specs.Prelude.{option_map, slice_index_or}
use Rattle.std.proofs.lemmas.Bool.{true≢false, false≢true, leb-true, le-leb, leb-false, lt-leb, not-true}
use Rattle.std.proofs.lemmas.Bool.Decides.{Decides-and, Decides-or, Decides-not, Decides-eqb, Decides-like, eqb_tells}
use Rattle.std.proofs.lemmas.Option.{same_Some}
use Rattle.std.proofs.lemmas.Slice.Eq.{bytes_eq-Decides}
use Rattle.grasp_asa.proofs.Kept.{named_once}
use Rattle.grasp_asa.proofs.Lists.{IsFound, found, none_at, missed}
use Rattle.grasp_asa.specs.Registrations.{Registrations, IsRegistry, is_numbered, is_agent_named, is_agent_name, is_named, is_taken, is_owned_by, is_of, is_dry_alone}
use Rattle.grasp_asa.specs.declared.entry.Registered.{Registered}
use Rattle.grasp_cbor.proofs.Facts.Lists.{missed as missed_any}
use Rattle.grasp_discovery.specs.Discoveries as discovery
use Rattle.grasp_discovery.specs.Discoveries.{find_reply, some_of}
use Rattle.grasp_discovery.specs.declared.answers.Find.{Find}
use Rattle.grasp_discovery.specs.declared.answers.Find.TheVariants as find_as
use Rattle.grasp_discovery.specs.declared.search.Search.{Search}
use Rattle.grasp_flood.proofs.SameKeys.{same_key_decides}
use Rattle.grasp_flood.specs.Flood.{key_of, same_key}
use Rattle.grasp_laws_node.specs.MeansSearches.{cached, search_of, search_sent}
use Rattle.grasp_laws_refusals.specs.Causes.{IsAgent, Owns, IsNew, HasNoPlace, HasNoStream, IsTooLong, HasNoRoom}
use Rattle.grasp_laws_tables.proofs.LawLeast.{any_decided}
use Rattle.grasp_model_node.specs.BoundedNodes.{IsBoundedNode}
use Rattle.grasp_model_node.specs.FloodCalls.{count_all, discovery_message, find_of, is_fresh, searching}
use Rattle.grasp_model_node.specs.Node.{NodeState}
use Rattle.grasp_model_node.specs.Queue.{all_ways, encoding, fits, has_room}
use Rattle.grasp_model_node.specs.SessionCalls.{flags_or}
use Rattle.grasp_model_node.specs.Streams.{is_full, is_dialled_out}
use Rattle.grasp_model_node.specs.Tests.{no_asa, asas_full, owned_flags, lacks, no_flood}
use Rattle.grasp_session.specs.Sessions as session
use Rattle.grasp_types.specs.Objective.{has_neg, has_dry}
use Rattle.grasp_types.specs.declared.address.Address.{Address}
use Rattle.grasp_types.specs.declared.address.Locator.{Locator}
use Rattle.grasp_types.specs.declared.message.Message.{Message}
use Rattle.grasp_types.specs.declared.session.Kind.{Kind}
use Rattle.grasp_types.specs.declared.session.Kind.TheVariants.{Negotiation, Synchronization}

-- ---- any test

pub is_true : (b : Bool) → Decides b (b ≡ true)
is_true b = (λ e. e, λ e. e)

pub is_no : (b : Bool) → Decides (not b) (b ≡ false)
is_no b = (not-true b, λ e. ap not e)

pub never : {P : Type 0} → (P → ⊥) → Decides false P
never none = (λ e. absurd (false≢true e), λ p. absurd (none p))

pub always : {P : Type 0} → P → Decides true P
always p = (λ e. p, λ q. refl)

pub no_more : (a b : ℕ) → Decides (nat_le a b) (a ≤ b)
no_more a b = (leb-true a b, le-leb a b)

-- a bound that isn't reached
pub below : (a b : ℕ) → Decides (not (nat_le a b)) (b < a)
below a b = (λ e. leb-false a b (not-true (nat_le a b) e), λ h. ap not (lt-leb a b h))

-- both are so, or neither is
pub alike : (a b : Bool) → Decides (cond a b (not b)) (a ≡ b)
alike true b = (λ h. sym h, λ h. sym h)
alike false true = (λ h. absurd (false≢true h), λ h. h)
alike false false = (λ h. refl, λ h. refl)

-- ---- what is sent

pub too_long : (n : NodeState) (m : Message) → Decides (not (fits n.plan.limit m)) (IsTooLong n m)
too_long n m = below (length (encoding m)) n.plan.limit

pub no_room : (n : NodeState) (count : ℕ) → Decides (not (has_room n.queue count)) (HasNoRoom n count)
no_room n count = below (length n.queue + count) 256

-- ---- agents

pub no_agent : (n : NodeState) (asa : ℕ) → Decides (no_asa n asa) (¬ IsAgent n asa)
no_agent n asa = Decides-not (list_any (is_numbered asa) n.registrations.agents) (any_decided (is_numbered asa) (λ a. a.number ≡ asa) (λ a. Decides-eqb a.number asa) n.registrations.agents)

pub agents_full : (n : NodeState) → Decides (asas_full n) ((32 ≤ length n.registrations.agents) ⊎ (n.registrations.made ≡ 4294967295))
agents_full n = Decides-or (nat_le 32 (length n.registrations.agents)) (n.registrations.made == 4294967295) (no_more 32 (length n.registrations.agents)) (Decides-eqb n.registrations.made 4294967295)

pub agent_named : (n : NodeState) (name : List ℕ) → Decides (is_agent_name n.registrations name) (Any (λ a. a.name ≡ name) n.registrations.agents)
agent_named n name = any_decided (is_agent_named name) (λ a. a.name ≡ name) (λ a. bytes_eq-Decides a.name name) n.registrations.agents

-- ---- objectives

pub objective_named : (n : NodeState) (name : List ℕ) → Decides (is_taken n.registrations name) (Any (λ o. o.name ≡ name) n.registrations.objectives)
objective_named n name = any_decided (is_named name) (λ o. o.name ≡ name) (λ o. bytes_eq-Decides o.name name) n.registrations.objectives

pub dry_alone : (flags : ℕ) → Decides (is_dry_alone flags) ((has_dry flags ≡ true) × (has_neg flags ≡ false))
dry_alone flags = Decides-and (has_dry flags) (not (has_neg flags)) (is_true (has_dry flags)) (is_no (has_neg flags))

of_decided : (asa : ℕ) (name : List ℕ) (o : Registered) → Decides (is_of asa name o) ((o.owner ≡ asa) × (o.name ≡ name))
of_decided asa name o = Decides-and (is_owned_by asa o) (is_named name o) (Decides-eqb o.owner asa) (bytes_eq-Decides o.name name)

-- what is found is the one objective of the agent's under the name
abbrev pub OwnsIn : Registrations → ℕ → List ℕ → ℕ → Type 0
OwnsIn r asa name flags = Any (λ o. (o.owner ≡ asa) × (o.name ≡ name) × (o.flags ≡ flags)) r.objectives

abbrev pub IsOwned : Registrations → ℕ → List ℕ → Option ℕ → Type 0
IsOwned r asa name None = (flags : ℕ) → ¬ OwnsIn r asa name flags
IsOwned r asa name (Some one) = OwnsIn r asa name one × ((flags : ℕ) → OwnsIn r asa name flags → flags ≡ one)

no_one : Registered
no_one = record { owner = 0; name = []; flags = 0; listening = false; offered = None }

abbrev flags_in : Option Registered → Option ℕ
flags_in o = option_map (λ (x : Registered). x.flags) o

owned_by : (r : Registrations) (asa : ℕ) (name : List ℕ) → IsRegistry r → IsOwned r asa name (flags_in (find (is_of asa name) r.objectives))
owned_by r asa name is = by (position (is_of asa name) r.objectives) refl where
  at_place : (i : ℕ) → IsFound (is_of asa name) r.objectives i → IsOwned r asa name (flags_in (find (is_of asa name) r.objectives))
  at_place i f = subst (λ (o : Option Registered). IsOwned r asa name (flags_in o)) (sym (f.first no_one)) (here, only) where
    one : Registered
    one = slice_index_or r.objectives i no_one

    same_one : (d : Registered) → slice_index_or r.objectives i d ≡ one
    same_one d = same_Some (slice_index_or r.objectives i d) one (sym (f.first d) ∙ f.first no_one)

    its : (d : Registered) → ((slice_index_or r.objectives i d).owner ≡ asa) × ((slice_index_or r.objectives i d).name ≡ name)
    its d = (of_decided asa name (slice_index_or r.objectives i d)).0 (f.passes d)

    named : (d : Registered) → is_named name (slice_index_or r.objectives i d) ≡ true
    named d = (bytes_eq-Decides (slice_index_or r.objectives i d).name name).1 (its d).1

    here : OwnsIn r asa name one.flags
    here = (i, one, f.within, same_one one, ((its no_one).0, (its no_one).1, refl))

    only : (flags : ℕ) → OwnsIn r asa name flags → flags ≡ one.flags
    only flags o = by_order (eqb_tells o.0 i) where
      by_order : ((o.0 == i ≡ true) × (o.0 ≡ i)) ⊎ ((o.0 == i ≡ false) × (o.0 ≢ i)) → flags ≡ one.flags
      by_order (inl h) = sym o.4.2 ∙ ap (λ (x : Registered). x.flags) (sym o.3 ∙ ap (λ k. slice_index_or r.objectives k o.1) h.1 ∙ same_one o.1)
      by_order (inr h) =
          let fails = named_once r name i is f.within named o.0 o.1 o.2 h.1 in
          let passes = (bytes_eq-Decides o.1.name name).1 o.4.1 in
          absurd (false≢true (sym fails ∙ ap (is_named name) o.3 ∙ passes))

  by : (o : Option ℕ) → position (is_of asa name) r.objectives ≡ o → IsOwned r asa name (flags_in (find (is_of asa name) r.objectives))
  by None e = subst (λ (o : Option Registered). IsOwned r asa name (flags_in o)) (sym (missed (is_of asa name) r.objectives e)) none where
    none : (flags : ℕ) → ¬ OwnsIn r asa name flags
    none flags o =
        let fails = none_at (is_of asa name) r.objectives o.0 o.1 (missed_any (is_of asa name) r.objectives (missed (is_of asa name) r.objectives e)) o.2 in
        let passes = (of_decided asa name o.1).1 (o.4.0, o.4.1) in
        false≢true (sym fails ∙ ap (is_of asa name) o.3 ∙ passes)
  by (Some i) e = at_place i (found (is_of asa name) r.objectives i e)

pub owned : (n : NodeState) (asa : ℕ) (name : List ℕ) → IsBoundedNode n → IsOwned n.registrations asa name (owned_flags n asa name)
owned n asa name k = owned_by n.registrations asa name k.registrations

-- what the tests of an agent's objective tell
pub none_owned : (n : NodeState) (asa : ℕ) (name : List ℕ) (o : Option ℕ) → IsOwned n.registrations asa name o → Decides (is_none o) ((flags : ℕ) → ¬ Owns n asa name flags)
none_owned n asa name None is = always is
none_owned n asa name (Some one) is = never (λ none. none one is.0)

pub lacking : (n : NodeState) (asa : ℕ) (name : List ℕ) (has : ℕ → Bool) (o : Option ℕ) → IsOwned n.registrations asa name o
    → Decides (lacks has o) ((flags : ℕ) → Owns n asa name flags → has flags ≡ false)
lacking n asa name has None is = always (λ flags own. absurd (is flags own))
lacking n asa name has (Some one) is =
    Decides-like (not (has one)) (λ lacks_it flags own. ap has (is.1 flags own) ∙ lacks_it) (λ none. none one is.0) (is_no (has one))

-- a message with the flags of the agent's objective
pub flagged : (n : NodeState) (asa : ℕ) (name : List ℕ) (m : ℕ → Message) (o : Option ℕ) → IsOwned n.registrations asa name o → is_none o ≡ false
    → Decides (not (fits n.plan.limit (m (flags_or o)))) ((flags : ℕ) × Owns n asa name flags × IsTooLong n (m flags))
flagged n asa name m None is e = absurd (true≢false e)
flagged n asa name m (Some one) is e =
    Decides-like (not (fits n.plan.limit (m one))) (λ h. (one, is.0, h)) (λ p. subst (λ flags. IsTooLong n (m flags)) (is.1 p.0 p.1) p.2) (too_long n (m one))

-- ---- places

pub no_place : (n : NodeState) → Decides (session.is_full n.sessions) (HasNoPlace n)
no_place n = Decides-or (nat_le 64 (session.live_count n.sessions)) (n.sessions.made == 2 ^ 64 - 1) (no_more 64 (session.live_count n.sessions)) (Decides-eqb n.sessions.made (2 ^ 64 - 1))

pub no_stream : (n : NodeState) → Decides (is_dialled_out n.streams) (HasNoStream n)
no_stream n = Decides-or (is_full n.streams) (nat_le (2 ^ 62) n.streams.dialled) (no_more 64 (length n.streams.records)) (no_more (2 ^ 62) n.streams.dialled)

-- ---- searches

none_is : (xs : List Locator) → some_of xs ≡ None → xs ≡ []
none_is [] e = refl
none_is (x ∷ xs) e = absurd (cc)

pub fresh : (n : NodeState) (asa : ℕ) (name : List ℕ) (kind : Kind) → Decides (is_fresh (find_of n asa name kind)) (IsNew n asa name kind)
fresh n asa name kind = by (some_of (cached n name kind)) refl (search_of n asa name kind) refl where
  over : (b : Bool) → is_fresh (cond b find_as.Nothing find_as.NotYet) ≡ false
  over true = refl
  over false = refl

  by : (l : Option (List Locator)) → some_of (cached n name kind) ≡ l → (s : Option Search) → search_of n asa name kind ≡ s → Decides (is_fresh (find_reply l s)) (IsNew n asa name kind)
  by (Some ls) e s f = never (λ new. let clash : None ≡ Some ls = ap some_of (sym new.none_cached) ∙ e in absurd (cc))
  by None e None f = always (record { none_cached = none_is (cached n name kind) e; none_kept = f })
  by None e (Some one) f = (
    λ h. absurd (false≢true (sym (over one.over) ∙ h)),
    λ new. let clash : None ≡ Some one = sym new.none_kept ∙ f in absurd (cc),
  )

pub searches_full : (n : NodeState) → IsBoundedNode n → Decides (discovery.is_full n.discoveries) (64 ≤ length n.discoveries.searches)
searches_full n k =
    let few = k.discoveries.few_searches in
    Decides-like (length n.discoveries.searches == 64) (λ e. omega (arith, e)) (λ h. omega (arith, h, few)) (Decides-eqb (length n.discoveries.searches) 64)

message_is : (n : NodeState) (name : List ℕ) (kind : Kind) (loops : ℕ) → discovery_message n name kind loops ≡ search_sent n name kind loops
message_is n name Negotiation loops = refl
message_is n name Synchronization loops = refl

pub search_long : (n : NodeState) (asa : ℕ) (name : List ℕ) (kind : Kind) (loops : ℕ) (f : Find) → Decides (is_fresh f) (IsNew n asa name kind)
    → Decides (searching n f name kind loops).too_long (IsNew n asa name kind × IsTooLong n (search_sent n name kind loops))
search_long n asa name kind loops find_as.Fresh d =
    Decides-like (not (fits n.plan.limit (discovery_message n name kind loops))) (λ h. (d.0 refl, subst (IsTooLong n) (message_is n name kind loops) h))
    (λ p. subst (IsTooLong n) (sym (message_is n name kind loops)) p.1) (too_long n (discovery_message n name kind loops))
search_long n asa name kind loops _ d = never (λ p. false≢true (d.1 p.0))

pub search_full : (n : NodeState) (asa : ℕ) (name : List ℕ) (kind : Kind) (loops : ℕ) (f : Find) → Decides (is_fresh f) (IsNew n asa name kind)
    → Decides (searching n f name kind loops).outbox_full (IsNew n asa name kind × HasNoRoom n (length (all_ways n.plan.links)))
search_full n asa name kind loops find_as.Fresh d =
    Decides-like (not (has_room n.queue (count_all n))) (λ h. (d.0 refl, h)) (λ p. p.1) (no_room n (count_all n))
search_full n asa name kind loops _ d = never (λ p. false≢true (d.1 p.0))

-- ---- floods

pub no_such_flood : (n : NodeState) (name : List ℕ) (initiator : Address) → Decides (no_flood n name initiator) (¬ Any (λ entry. entry.0 ≡ key_of name initiator) n.floods.entries)
no_such_flood n name initiator =
    Decides-not (list_any (λ entry. same_key (key_of name initiator) entry.0) n.floods.entries)
    (any_decided (λ entry. same_key (key_of name initiator) entry.0) (λ entry. entry.0 ≡ key_of name initiator)
    (λ entry. Decides-like (same_key (key_of name initiator) entry.0) (λ e. sym e) (λ e. sym e) (same_key_decides (key_of name initiator) entry.0)) n.floods.entries)
