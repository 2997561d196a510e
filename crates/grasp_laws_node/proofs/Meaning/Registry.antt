-- What the answers of calls on agents and objectives mean.
use Rattle.std.proofs.Common.{◌≡◌, ℕ, zero, suc, Bool, true, false, cond, not, ◌&&◌, ◌==◌, nat_le, List, [], ◌∷◌, length, map, filter, Option, Some, None, is_none, Ok, refl, sym, ap, ◌∙◌, subst}
use Rattle.std.specs.Prelude.{option_map}
use Rattle.std.specs.List.{list_any, find}
use Rattle.std.proofs.lemmas.Bool.{true≢false, not-false, or_parts, leb-false}
use Rattle.grasp_asa.specs.Answers.{marked, offering, offer_of, listener_of, value_offered, names_of}
use Rattle.grasp_asa.specs.Registrations.{is_registered, is_named, is_numbered, is_owned_by, is_of}
use Rattle.grasp_asa.specs.declared.entry.Registered.{Registered}
use Rattle.grasp_cbor.specs.DataItem.{DataItem}
use Rattle.grasp_discovery.specs.Discoveries.{without_asa}
use Rattle.grasp_session.specs.Runs.{Reached}
use Rattle.grasp_session.specs.Sessions.{Sessions, owner_reply, stream_reply, after_remove}
use Rattle.grasp_types.specs.declared.reply.ApiAnswer.{ApiAnswer}
use Rattle.grasp_types.specs.declared.session.Handle.{Handle}
use Rattle.grasp_model_node.specs.Declines.{Declining, declines_of, may_decline, declined, removed, after_decline, after_declines}
use Rattle.grasp_laws_node.specs.Means.{Negotiates}
use Rattle.grasp_laws_node.specs.MeansRegistry.{Declines, OnlyUntakenLeave, RegisterAsaMeans, RegisterObjectiveMeans, OfferFacts, OfferMeans, StopOfferMeans, KeepsRest, StopMeans, DeregisterObjectiveMeans, DeregisterAsaMeans}
use Rattle.grasp_model_node.specs.Moves.{with_registrations, with_sessions, with_discoveries, begin_closing, queue_up}
use Rattle.grasp_model_node.specs.Node.{NodeState}
use Rattle.grasp_model_node.specs.RegistryCalls.{after_offering, with_mark, without_objective, without_agent, without_searches, without_session, without_sessions, close_stream, declines_for, MayOffer}
use Rattle.grasp_model_node.specs.BoundedNodes.{IsBoundedNode}
use Rattle.grasp_model_node.specs.Tests.{no_asa, owned_flags, agent_tests, register_asa_tests, register_objective_tests, objective_tests, negotiation_tests, synchronization_tests}
use Rattle.grasp_laws_node.proofs.AllFailing.{all_fail}
use Rattle.grasp_laws_node.proofs.Bounded.Calls.{declines_kept, without_searches_kept}
use Rattle.grasp_laws_node.proofs.Bounded.Moves.{registrations_kept}
use Rattle.grasp_laws_node.proofs.Meaning.Leaving.{none_owned}
use Rattle.grasp_laws_tables.proofs.LawKept.{registry_kept}
use Rattle.grasp_laws_session.proofs.Runs.{calls_in_order}
use Rattle.grasp_laws_node.proofs.Meaning.Acts.{negotiates}
use Rattle.grasp_laws_node.proofs.Meaning.Declines.{only_untaken_leave}
use Rattle.grasp_laws_node.proofs.Meaning.Said.{declines_mean}
use Rattle.grasp_laws_node.proofs.Meaning.Requests.{synchronizes}
use Rattle.grasp_laws_node.proofs.Meaning.Searches.{any_left}

pub register_asa_means_lem : RegisterAsaMeans
unfolding with_registrations
register_asa_means_lem n name a m =
    let t = all_fail (register_asa_tests n name) m.0 in
    let p = or_parts (nat_le 32 (length n.registrations.agents)) (n.registrations.made == 4294967295) t.asas in
    record {
      few = leb-false 32 (length n.registrations.agents) p.0;
      numbers_left = p.1;
      free = t.duplicate;
      told = m.2;
      leads = rw (t.asas, t.duplicate) refl;
    }

pub register_objective_means_lem : RegisterObjectiveMeans
unfolding with_registrations
register_objective_means_lem n asa name flags a m =
    let t = all_fail (register_objective_tests n asa name flags) m.0 in
    record {
      done = m.2;
      registered = not-false (is_registered n.registrations asa) t.asa;
      one_use = t.both;
      few = leb-false 64 (length n.registrations.objectives) t.objectives;
      free = t.taken;
      dry = t.dry;
      leads = rw (t.asa, t.both, t.objectives, t.taken, t.dry) refl;
    }

-- ---- values

-- the first objective of the name is offered with the value
offered_is : (asa : ℕ) (name : List ℕ) (value : Option DataItem) (xs : List Registered) (flags : ℕ) → option_map (λ (o : Registered). o.flags) (find (is_of asa name) xs) ≡ Some flags
    → offer_of (find (is_named name) (map (offering name value) xs)) ≡ value
offered_is asa name value [] flags e = absurd (cc)
offered_is asa name value (x ∷ xs) flags e = by_test (is_named name x) refl (offered_is asa name value xs flags) where
  by_test : (b : Bool) → is_named name x ≡ b → (option_map (λ (o : Registered). o.flags) (find (is_of asa name) xs) ≡ Some flags → offer_of (find (is_named name) (map (offering name value) xs)) ≡ value)
      → offer_of (find (is_named name) (map (offering name value) (x ∷ xs))) ≡ value
  by_test true f more = rw (f, f) refl
  by_test false f more = rw (f, f) (more (rest (is_owned_by asa x) f e)) where
    rest : (c : Bool) → is_named name x ≡ false → option_map (λ (o : Registered). o.flags) (find (is_of asa name) (x ∷ xs)) ≡ Some flags → option_map (λ (o : Registered). o.flags) (find (is_of asa name) xs) ≡ Some flags
    rest c g h = subst (λ (b : Bool). option_map (λ (o : Registered). o.flags) (cond b (Some x) (find (is_of asa name) xs)) ≡ Some flags) (both (is_owned_by asa x) g) h where
      both : (d : Bool) → is_named name x ≡ false → (d && is_named name x) ≡ false
      both true i = i
      both false i = refl

offers : (n : NodeState) (asa : ℕ) (name : List ℕ) (value : Option DataItem) (a : ApiAnswer) → MayOffer n asa name (Ok a) → OfferFacts n asa name value a (after_offering n asa name value (Ok a))
unfolding with_registrations
offers n asa name value a m =
    let t = all_fail (synchronization_tests n asa name) m.0 in
    let g = synchronizes n asa name t.asa t.synchronizable in
    let e : after_offering n asa name value (Ok a) ≡ record n { registrations = record n.registrations { objectives = map (offering name value) n.registrations.objectives } } = rw (t.asa, g.own, g.has) refl in
    record {
      done = m.2;
      synchronizes = g;
      leads = e;
      offered = ap (λ (k : NodeState). value_offered k.registrations name) e ∙ offered_is asa name value n.registrations.objectives g.flags g.own;
    }

pub offer_means_lem : OfferMeans
offer_means_lem n asa name value a m = offers n asa name (Some value) a m

pub stop_offer_means_lem : StopOfferMeans
stop_offer_means_lem n asa name a m = offers n asa name None a m

-- ---- what declines leave alone

both_keep : (n k after : NodeState) → KeepsRest n k → KeepsRest k after → KeepsRest n after
both_keep n k after p q = record {
  plan = q.plan ∙ p.plan;
  reading = q.reading ∙ p.reading;
  registrations = q.registrations ∙ p.registrations;
  discoveries = q.discoveries ∙ p.discoveries;
  floods = q.floods ∙ p.floods;
  drawn = q.drawn ∙ p.drawn;
}

same_keeps : (n : NodeState) → KeepsRest n n
same_keeps n = record { plan = refl; reading = refl; registrations = refl; discoveries = refl; floods = refl; drawn = refl }

keeps_by : (n : NodeState) (d : Declining) (b : Bool) → KeepsRest n (begin_closing (cond b (declined n d) (removed n d.handle)) d.stream)
unfolding with_sessions begin_closing queue_up
keeps_by n d true = record { plan = refl; reading = refl; registrations = refl; discoveries = refl; floods = refl; drawn = refl }
keeps_by n d false = record { plan = refl; reading = refl; registrations = refl; discoveries = refl; floods = refl; drawn = refl }

declines_keep : (n : NodeState) (ds : List Declining) → KeepsRest n (after_declines n ds)
unfolding after_declines
declines_keep n [] = same_keeps n
declines_keep n (d ∷ ds) = both_keep n (after_decline n d) (after_declines (after_decline n d) ds) (keeps_by n d (may_decline n d.handle)) (declines_keep (after_decline n d) ds)

close_keeps : (n : NodeState) (o : Option ℕ) → KeepsRest n (close_stream n o)
unfolding begin_closing
close_keeps n None = same_keeps n
close_keeps n (Some stream) = record { plan = refl; reading = refl; registrations = refl; discoveries = refl; floods = refl; drawn = refl }

remove_keeps : (n : NodeState) (h : Handle) → KeepsRest n (with_sessions n (after_remove n.sessions h))
unfolding with_sessions
remove_keeps n h = record { plan = refl; reading = refl; registrations = refl; discoveries = refl; floods = refl; drawn = refl }

session_keeps : (n : NodeState) (o : Option Handle) → KeepsRest n (without_session n o)
session_keeps n None = same_keeps n
session_keeps n (Some h) = both_keep n (with_sessions n (after_remove n.sessions h)) _ (remove_keeps n h) (close_keeps (with_sessions n (after_remove n.sessions h)) (stream_reply n.sessions h))

sessions_keep : (count : ℕ) (n : NodeState) (asa : ℕ) → KeepsRest n (without_sessions count n asa)
unfolding without_sessions
sessions_keep zero n asa = same_keeps n
sessions_keep (suc count) n asa = both_keep n (without_sessions count n asa) _ (sessions_keep count n asa) (session_keeps (without_sessions count n asa) (owner_reply (without_sessions count n asa).sessions asa))

-- ---- untaken sessions

only_left : (name : List ℕ) (n k : NodeState) → IsBoundedNode n → k.sessions ≡ n.sessions → OnlyUntakenLeave name n.sessions (after_declines k (declines_of n.sessions name)).sessions
only_left name n k i e =
    subst (λ (z : Sessions). OnlyUntakenLeave name z (after_declines k (declines_of z name)).sessions) e (only_untaken_leave name k (subst Reached (sym e) i.sessions))

mark_sessions : (n : NodeState) (asa : ℕ) (name : List ℕ) → (with_mark n asa name false).sessions ≡ n.sessions
unfolding with_registrations
mark_sessions n asa name = refl

objective_sessions : (n : NodeState) (asa : ℕ) (name : List ℕ) → (without_objective n asa name).sessions ≡ n.sessions
unfolding with_registrations
objective_sessions n asa name = refl

mark_meant : (n : NodeState) (asa : ℕ) (name : List ℕ) → IsBoundedNode n → Declines name (with_mark n asa name false) (after_declines (with_mark n asa name false) (declines_of n.sessions name))
mark_meant n asa name i =
    subst (λ (z : Sessions). Declines name (with_mark n asa name false) (after_declines (with_mark n asa name false) (declines_of z name))) (mark_sessions n asa name)
    (declines_mean name (with_mark n asa name false) (subst Reached (sym (mark_sessions n asa name)) i.sessions))

mark_declines : (n : NodeState) (asa : ℕ) (name : List ℕ) (after : NodeState) → Declines name (with_mark n asa name false) after → Declines name n after
unfolding with_registrations
mark_declines n asa name after d = record { more = d.more; queued = d.queued; each = d.each; closes = d.closes; records = d.records }

objective_meant : (n : NodeState) (asa : ℕ) (name : List ℕ) → IsBoundedNode n → Declines name (without_objective n asa name) (after_declines (without_objective n asa name) (declines_of n.sessions name))
objective_meant n asa name i =
    subst (λ (z : Sessions). Declines name (without_objective n asa name) (after_declines (without_objective n asa name) (declines_of z name))) (objective_sessions n asa name)
    (declines_mean name (without_objective n asa name) (subst Reached (sym (objective_sessions n asa name)) i.sessions))

objective_declines : (n : NodeState) (asa : ℕ) (name : List ℕ) (after : NodeState) → Declines name (without_objective n asa name) after → Declines name n after
unfolding with_registrations
objective_declines n asa name after d = record { more = d.more; queued = d.queued; each = d.each; closes = d.closes; records = d.records }

-- ---- stop_listen_negotiate

none_listens : (name : List ℕ) (xs : List Registered) → find (λ (o : Registered). is_named name o && o.listening) (map (marked name false) xs) ≡ None
none_listens name [] = refl
none_listens name (x ∷ xs) = by_test (is_named name x) refl (none_listens name xs) where
  by_test : (b : Bool) → is_named name x ≡ b → find (λ (o : Registered). is_named name o && o.listening) (map (marked name false) xs) ≡ None → find (λ (o : Registered). is_named name o && o.listening) (map (marked name false) (x ∷ xs)) ≡ None
  by_test true f more = rw (f, f) more
  by_test false f more = rw (f, f) more

unmarked_is : (n : NodeState) (asa : ℕ) (name : List ℕ) → (g : Negotiates n asa name) → with_mark n asa name false ≡ record n { registrations = record n.registrations { objectives = map (marked name false) n.registrations.objectives } }
unfolding with_registrations
unmarked_is n asa name g = rw (g.registered, g.own, g.has) refl

pub stop_listen_means_lem : StopMeans
stop_listen_means_lem n asa name a k m =
    let t = all_fail (negotiation_tests n asa name) m.0 in
    let g = negotiates n asa name t.asa t.negotiable in
    let keeps = subst (λ (k : NodeState). KeepsRest k (after_declines (with_mark n asa name false) (declines_of n.sessions name))) (unmarked_is n asa name g) (declines_keep (with_mark n asa name false) (declines_of n.sessions name)) in
    record {
      done = m.2;
      negotiates = g;
      rest = keeps;
      unlistened = ap (λ r. listener_of r name) keeps.registrations ∙ ap (option_map (λ (o : Registered). o.owner)) (none_listens name n.registrations.objectives);
      sessions = only_left name n (with_mark n asa name false) k (mark_sessions n asa name);
      declines = mark_declines n asa name (after_declines (with_mark n asa name false) (declines_of n.sessions name)) (mark_meant n asa name k);
    }

-- ---- deregister_objective

none_found : (asa : ℕ) (name : List ℕ) (xs : List Registered) → find (is_of asa name) (filter (λ o. not (is_of asa name o)) xs) ≡ None
none_found asa name [] = refl
none_found asa name (x ∷ xs) = by_test (is_of asa name x) refl (none_found asa name xs) where
  by_test : (b : Bool) → is_of asa name x ≡ b → find (is_of asa name) (filter (λ o. not (is_of asa name o)) xs) ≡ None
      → find (is_of asa name) (cond (not b) (x ∷ filter (λ o. not (is_of asa name o)) xs) (filter (λ o. not (is_of asa name o)) xs)) ≡ None
  by_test true f more = more
  by_test false f more = ap (λ (b : Bool). cond b (Some x) (find (is_of asa name) (filter (λ o. not (is_of asa name o)) xs))) f ∙ more

pub record Owns (n : NodeState) (asa : ℕ) (name : List ℕ) : Type 0 where
  pub flags : ℕ
  pub own : owned_flags n asa name ≡ Some flags

owns : (n : NodeState) (asa : ℕ) (name : List ℕ) → is_none (owned_flags n asa name) ≡ false → Owns n asa name
owns n asa name e = by_flags (owned_flags n asa name) refl e where
  by_flags : (o : Option ℕ) → owned_flags n asa name ≡ o → is_none o ≡ false → Owns n asa name
  by_flags None f g = absurd (true≢false g)
  by_flags (Some flags) f g = record { flags = flags; own = f }

without_is : (n : NodeState) (asa : ℕ) (name : List ℕ) → no_asa n asa ≡ false → (g : Owns n asa name) → without_objective n asa name ≡ record n { registrations = record n.registrations { objectives = filter (λ o. not (is_of asa name o)) n.registrations.objectives } }
unfolding with_registrations
without_is n asa name e g = rw (e, g.own) refl

pub deregister_objective_means_lem : DeregisterObjectiveMeans
deregister_objective_means_lem n asa name a k m =
    let t = all_fail (objective_tests n asa name) m.0 in
    let g = owns n asa name t.yours in
    let keeps = subst (λ (k : NodeState). KeepsRest k (after_declines (without_objective n asa name) (declines_of n.sessions name))) (without_is n asa name t.asa g) (declines_keep (without_objective n asa name) (declines_of n.sessions name)) in
    record {
      done = m.2;
      registered = not-false (is_registered n.registrations asa) t.asa;
      flags = g.flags;
      own = g.own;
      rest = keeps;
      gone = ap (λ r. option_map (λ (o : Registered). o.flags) (find (is_of asa name) r.objectives)) keeps.registrations ∙ ap (option_map (λ (o : Registered). o.flags)) (none_found asa name n.registrations.objectives);
      sessions = only_left name n (without_objective n asa name) k (objective_sessions n asa name);
      declines = objective_declines n asa name (after_declines (without_objective n asa name) (declines_of n.sessions name)) (objective_meant n asa name k);
    }

-- ---- deregister_asa

left_is : (n k : NodeState) (asa : ℕ) → is_registered n.registrations asa ≡ true → KeepsRest (without_agent n asa) k
    → KeepsRest (record n { registrations = record n.registrations { agents = filter (λ x. not (is_numbered asa x)) n.registrations.agents; objectives = filter (λ o. not (is_owned_by asa o)) n.registrations.objectives }; discoveries = without_asa n.discoveries asa })
    (without_searches k asa)
unfolding with_registrations with_discoveries
left_is n k asa e q = record {
  plan = q.plan;
  reading = q.reading;
  registrations = q.registrations ∙ rw e refl;
  discoveries = ap (λ d. without_asa d asa) q.discoveries;
  floods = q.floods;
  drawn = q.drawn;
}

long : (n : NodeState) (asa : ℕ) → IsBoundedNode n → length (without_searches (after_declines (without_agent n asa) (declines_for n.sessions (names_of n.registrations asa))) asa).sessions.places ≡ 64
long n asa i =
    let k = without_searches_kept (after_declines (without_agent n asa) (declines_for n.sessions (names_of n.registrations asa))) asa
    (declines_kept (without_agent n asa) (declines_for n.sessions (names_of n.registrations asa)) (registrations_kept n _ i ((registry_kept.kept n.registrations i.registrations).deregister_asa asa))) in
    (calls_in_order _ k.sessions).long

pub deregister_asa_means_lem : DeregisterAsaMeans
deregister_asa_means_lem n asa a i m =
    let t = all_fail (agent_tests n asa) m.0 in
    let e = not-false (is_registered n.registrations asa) t.asa in
    let k = after_declines (without_agent n asa) (declines_for n.sessions (names_of n.registrations asa)) in
    let keeps = both_keep _ (without_searches k asa) (without_sessions 64 (without_searches k asa) asa) (left_is n k asa e (declines_keep (without_agent n asa) (declines_for n.sessions (names_of n.registrations asa)))) (sessions_keep 64 (without_searches k asa) asa) in
    record {
      done = m.2;
      registered = e;
      rest = keeps;
      unregistered = ap (λ r. is_registered r asa) keeps.registrations ∙ any_left (is_numbered asa) n.registrations.agents;
      no_objective = ap (λ r. list_any (is_owned_by asa) r.objectives) keeps.registrations ∙ any_left (is_owned_by asa) n.registrations.objectives;
      no_search = ap (λ d. list_any (λ search. search.asa == asa) d.searches) keeps.discoveries ∙ any_left (λ search. search.asa == asa) n.discoveries.searches;
      no_session = λ place x at same. none_owned (without_searches k asa) asa (long n asa i) place x at same;
    }
