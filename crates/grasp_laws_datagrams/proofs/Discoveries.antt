-- What a discovery does that comes from a neighbour.
use Rattle.std.proofs.Common.{◌≡◌, ◌≤◌, ◌<◌, ◌⊎◌, nat_le, ℕ, Bool, true, false, cond, not, ◌&&◌, ◌||◌, List, Option, Some, None, refl, sym, ap, ◌∙◌, subst, arith}
use Rattle.std.specs.Bool.{Decides}
use Rattle.std.specs.List.{Any}
use Rattle.std.specs.Prelude.{All}
use Rattle.std.proofs.lemmas.Bool.{false≢true, not-true}
use Rattle.std.proofs.lemmas.Bool.Decides.{Decides-and, Decides-or, Decides-like, not_from_Decides}
use Rattle.std.proofs.lemmas.Option.{same_Some}
use Rattle.grasp_asa.specs.Answers.{flags_registered}
use Rattle.grasp_asa.specs.Registrations.{Registrations}
use Rattle.grasp_discovery.specs.Discoveries as discovery
use Rattle.grasp_discovery.specs.declared.answers.Cause.{Cause}
use Rattle.grasp_discovery.specs.declared.answers.Heard as answered
use Rattle.grasp_discovery.specs.declared.answers.Heard.TheVariants as discovered
use Rattle.grasp_laws_hearing.proofs.Answering.{no_more, dialled, neither}
use Rattle.grasp_laws_hearing.specs.Answering.{IsDialled}
use Rattle.grasp_laws_tables.proofs.DiscoveryLaws.{discoveries_known}
use Rattle.grasp_laws_tables.specs.Discoveries.{IsHeardAs}
use Rattle.grasp_model_node.specs.Datagrams.{serves, lowered, discovery_relayed, own_response, discovery_passed, discovery_answered, discovery_heard, is_dropped, after_discovery}
use Rattle.grasp_model_node.specs.Moves.{with_discoveries, relay, dial_with}
use Rattle.grasp_model_node.specs.Node.{NodeState}
use Rattle.grasp_model_node.specs.Queue.{other_ways}
use Rattle.grasp_types.proofs.Same.{same_address_decides}
use Rattle.grasp_types.specs.Objective.{has_disc, has_neg, has_synch}
use Rattle.grasp_types.specs.Origin.{origin_of}
use Rattle.grasp_types.specs.Same.{same_address}
use Rattle.grasp_types.specs.declared.address.Address.{Address}
use Rattle.grasp_types.specs.declared.address.Locator.{Locator}
use Rattle.grasp_types.specs.declared.links.Neighbour.{Neighbour}
use Rattle.grasp_types.specs.declared.message.Answer.TheVariants.{Divert}
use Rattle.grasp_types.specs.declared.message.Message.TheVariants.{Discovery, Response}
use Rattle.grasp_types.specs.declared.objective.Objective.{Objective}
use Rattle.grasp_laws_datagrams.proofs.Relaying.{relayed}
use Rattle.grasp_laws_datagrams.specs.Discoveries.{IsDropped, wanted, having_remembered, IsServed, AnswersIt, DiscoveryDoes, one_less, own_answer}
use Rattle.grasp_laws_datagrams.specs.Relaying.{IsRelayed}

-- ---- tests

is_true : (b : Bool) → Decides b (b ≡ true)
is_true b = (λ e. e, λ e. e)

is_no : (b : Bool) → Decides (not b) (b ≡ false)
is_no b = (not-true b, λ e. ap not e)

-- the addresses the other way round
pub own_address : (n : NodeState) (initiator : Address) → Decides (same_address n.plan.address initiator) (initiator ≡ n.plan.address)
own_address n initiator = Decides-like (same_address n.plan.address initiator) (λ e. sym e) (λ e. sym e) (same_address_decides n.plan.address initiator)

dropped_decides : (n : NodeState) (initiator : Address) (o : Objective) → Decides (is_dropped n initiator o.flags) (IsDropped n initiator o)
dropped_decides n initiator o =
    Decides-or (same_address n.plan.address initiator) (not (has_neg o.flags || has_synch o.flags)) (own_address n initiator)
    (neither (has_neg o.flags) (has_synch o.flags) (is_no (has_neg o.flags)) (is_no (has_synch o.flags)))

-- what flags serve, where these are registered
abbrev Serves : ℕ → ℕ → Type 0
Serves flags registered = (has_disc registered ≡ true) × (((has_neg registered ≡ true) × (has_neg flags ≡ true)) ⊎ ((has_synch registered ≡ true) × (has_synch flags ≡ true)))

flags_serve : (flags registered : ℕ) → Decides (serves flags (Some registered)) (Serves flags registered)
flags_serve flags registered =
    Decides-and (has_disc registered) ((has_neg registered && has_neg flags) || (has_synch registered && has_synch flags)) (is_true (has_disc registered))
    (Decides-or (has_neg registered && has_neg flags) (has_synch registered && has_synch flags)
    (Decides-and (has_neg registered) (has_neg flags) (is_true (has_neg registered)) (is_true (has_neg flags)))
    (Decides-and (has_synch registered) (has_synch flags) (is_true (has_synch registered)) (is_true (has_synch flags))))

served_decides : (r : Registrations) (o : Objective) → Decides (serves o.flags (flags_registered r o.name)) (IsServed r o)
served_decides r o = by (flags_registered r o.name) refl where
  by : (f : Option ℕ) → flags_registered r o.name ≡ f → Decides (serves o.flags f) (IsServed r o)
  by None e = (λ h. absurd (false≢true h), λ s. let clash : None ≡ Some s.flags = sym e ∙ s.registered in absurd (cc))
  by (Some flags) e =
      Decides-like (serves o.flags (Some flags)) (λ s. record { flags = flags; registered = e; disc = s.0; use_in_common = s.1 })
      (λ s. subst (Serves o.flags) (same_Some s.flags flags (sym s.registered ∙ e)) (s.disc, s.use_in_common)) (flags_serve o.flags flags)

-- ---- a new one

passes_on : (n : NodeState) (link session : ℕ) (initiator : Address) (o : Objective) → (2 ≤ o.loops → IsRelayed n link (one_less session initiator o) (discovery_relayed n link session initiator o))
    × (o.loops < 2 → discovery_relayed n link session initiator o ≡ n)
passes_on n link session initiator o = by (nat_le 2 o.loops) (no_more 2 o.loops) where
  by : (b : Bool) → Decides b (2 ≤ o.loops) → (2 ≤ o.loops → IsRelayed n link (one_less session initiator o) (cond b (relay n (Discovery session initiator (lowered o)) (other_ways link n.plan.links)) n))
      × (o.loops < 2 → cond b (relay n (Discovery session initiator (lowered o)) (other_ways link n.plan.links)) n ≡ n)
  by true d = (λ h. relayed n link (one_less session initiator o), λ few. let enough = d.0 refl in absurd (omega (arith, few, enough)))
  by false d = (λ h. absurd (not_from_Decides false d refl h), λ few. refl)

answers_it : (n : NodeState) (link : ℕ) (neighbour : Neighbour) (session : ℕ) (initiator : Address) (o : Objective)
    → AnswersIt n link neighbour session initiator o (discovery_answered n link neighbour session initiator o)
answers_it n link neighbour session initiator o = by (serves o.flags (flags_registered n.registrations o.name)) (served_decides n.registrations o) where
  to : NodeState → Type 0
  to after = IsDialled n neighbour.locator (own_answer n session initiator) after

  by_known : (¬ IsServed n.registrations o) → (k : Option (List Locator × ℕ)) → discovery.known_of n.discoveries (wanted o) n.reading ≡ k
      → AnswersIt n link neighbour session initiator o (discovery_passed n link neighbour session initiator o k)
  by_known not_it None e = record {
    served = λ s. absurd (not_it s);
    diverted = λ s known f. let clash : None ≡ Some known = sym e ∙ f in absurd (cc);
    relayed = λ s f h. (passes_on n link session initiator o).0 h;
    over = λ s f h. (passes_on n link session initiator o).1 h;
  }
  by_known not_it (Some known) e = record {
    served = λ s. absurd (not_it s);
    diverted = λ s other f.
        subst (λ (k : List Locator × ℕ). IsDialled n neighbour.locator (Response session initiator k.1 (Divert k.0) None) (discovery_passed n link neighbour session initiator o (Some known)))
        (same_Some known other (sym e ∙ f)) (dialled n neighbour.locator (Response session initiator known.1 (Divert known.0) None));
    relayed = λ s f h. let clash : None ≡ Some known = sym f ∙ e in absurd (cc);
    over = λ s f h. let clash : None ≡ Some known = sym f ∙ e in absurd (cc);
  }

  by : (b : Bool) → Decides b (IsServed n.registrations o)
      → AnswersIt n link neighbour session initiator o (cond b (dial_with n neighbour.locator (own_response n session initiator)) (discovery_passed n link neighbour session initiator o (discovery.known_of n.discoveries (wanted o) n.reading)))
  by true d = record {
    served = λ s. dialled n neighbour.locator (own_answer n session initiator);
    diverted = λ no. absurd (no (d.0 refl));
    relayed = λ no. absurd (no (d.0 refl));
    over = λ no. absurd (no (d.0 refl));
  }
  by false d = by_known (not_from_Decides false d refl) (discovery.known_of n.discoveries (wanted o) n.reading) refl

-- ---- any discovery

-- one that passes is none that doesn't
pub not_both : {X : Type 0} (P : X → Type 0) (xs : List X) → Any P xs → All (λ x. ¬ P x) xs → ⊥
not_both P xs any none = none any.0 any.1 any.2 (subst P (sym any.3) any.4)

module _ (n : NodeState) (link from : ℕ) (neighbour : Neighbour) (session : ℕ) (initiator : Address) (o : Objective) where
  abbrev Does : NodeState → Type 0
  Does after = DiscoveryDoes n link from neighbour session initiator o after

  dropped : IsDropped n initiator o → Does n
  dropped h = record { dropped = λ d. refl; known = λ k. refl; no_place = λ p. refl; new = λ no. absurd (no h) }

  abbrev cause : Cause
  cause = record { link = link; from = from }

  heard : (¬ IsDropped n initiator o) → (r : answered.Heard) → IsHeardAs n.discoveries (origin_of session initiator) r → Does (discovery_heard n cause neighbour session initiator o r)
  unfolding with_discoveries
  heard passes discovered.Known h = record {
    dropped = λ d. refl;
    known = λ k. refl;
    no_place = λ p. refl;
    new = λ fresh unknown room. absurd (not_both (λ memory. memory.0 ≡ origin_of session initiator) n.discoveries.memories h unknown);
  }
  heard passes discovered.NoPlace h =
      let many = h.1 in
      record { dropped = λ d. refl; known = λ k. refl; no_place = λ p. refl; new = λ fresh unknown room. absurd (omega (arith, many, room)) }
  heard passes discovered.New h =
      let few = h.1 in
      record {
        dropped = λ d. absurd (passes d);
        known = λ k. absurd (not_both (λ memory. memory.0 ≡ origin_of session initiator) n.discoveries.memories k h.0);
        no_place = λ many. absurd (omega (arith, few, many));
        new = λ fresh unknown room. answers_it (having_remembered n link from session initiator o) link neighbour session initiator o;
      }

  pub discovery_does : Does (after_discovery n cause neighbour session initiator o)
  discovery_does = by (is_dropped n initiator o.flags) (dropped_decides n initiator o) where
    by : (b : Bool) → Decides b (IsDropped n initiator o)
        → Does (cond b n (discovery_heard n cause neighbour session initiator o (discovery.heard_reply n.discoveries (origin_of session initiator))))
    by true d = dropped (d.0 refl)
    by false d = heard (not_from_Decides false d refl) (discovery.heard_reply n.discoveries (origin_of session initiator)) (discoveries_known n.discoveries (origin_of session initiator))
