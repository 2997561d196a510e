-- What the answers of searches and floods mean.
use Rattle.std.proofs.Common.{◌≡◌, ◌≢◌, ℕ, ◌+◌, Bool, true, false, cond, not, ◌&&◌, ◌||◌, List, [], ◌∷◌, ◌++◌, length, filter, Option, Some, None, Ok, refl, sym, ap, ◌∙◌, subst}
use Rattle.std.specs.List.{list_any, find}
use Rattle.std.proofs.lemmas.Bool.{not-false}
use Rattle.grasp_asa.specs.Registrations.{is_registered}
use Rattle.grasp_discovery.specs.Discoveries.{cached_under, locators_of, some_of, find_reply, is_search_of, without_search, is_full}
use Rattle.grasp_discovery.specs.Topic.{topic_of}
use Rattle.grasp_discovery.specs.declared.answers.Find.{Find}
use Rattle.grasp_discovery.specs.declared.answers.Find.TheVariants as find_as
use Rattle.grasp_discovery.specs.declared.search.Search.{Search}
use Rattle.grasp_discovery.specs.declared.topic.Topic.{Topic}
use Rattle.grasp_flood.specs.Flood.{key_of, same_key}
use Rattle.grasp_flood.specs.Floods.{has_key}
use Rattle.grasp_types.specs.declared.address.Locator.{Locator}
use Rattle.grasp_types.specs.declared.message.Message.{Message}
use Rattle.grasp_types.specs.declared.reply.ApiAnswer.{ApiAnswer}
use Rattle.grasp_types.specs.declared.session.Kind.{Kind}
use Rattle.grasp_types.specs.declared.session.Kind.TheVariants.{Negotiation, Synchronization}
use Rattle.grasp_model_node.specs.FloodCalls.{find_of, is_fresh, found_as, searching, looked, begun, discovery_message, to_all, flood_message}
use Rattle.grasp_laws_node.specs.MeansSearches.{cached, search_of, Ceases, search_sent, Searches, DiscoverTells, DiscoverMeans, flood_sent, FloodMeans, GetMeans, ExpireMeans}
use Rattle.grasp_model_node.specs.Moves.{with_discoveries, with_floods, with_draw, queue_up}
use Rattle.grasp_model_node.specs.Node.{NodeState}
use Rattle.grasp_model_node.specs.Queue.{along, all_ways}
use Rattle.grasp_model_node.specs.Refusals.{late}
use Rattle.grasp_model_node.specs.SessionCalls.{flags_or}
use Rattle.grasp_model_node.specs.Tests.{agent_tests, discover_tests, synchronization_tests, expire_flood_tests, sending}
use Rattle.grasp_laws_node.proofs.AllFailing.{AllFail, all_fail}
use Rattle.grasp_laws_node.proofs.Meaning.Acts.{sends}
use Rattle.grasp_laws_node.proofs.Meaning.Requests.{synchronizes}

-- none of those that are left passes
pub any_left : {X : Type 0} (p : X → Bool) (xs : List X) → list_any p (filter (λ x. not (p x)) xs) ≡ false
any_left p [] = refl
any_left p (x ∷ xs) = by_test (p x) refl (any_left p xs) where
  by_test : (b : Bool) → p x ≡ b → list_any p (filter (λ x. not (p x)) xs) ≡ false → list_any p (cond (not b) (x ∷ filter (λ x. not (p x)) xs) (filter (λ x. not (p x)) xs)) ≡ false
  by_test true e f = f
  by_test false e f = ap (λ b. b || list_any p (filter (λ x. not (p x)) xs)) e ∙ f

some_is : (xs ys : List Locator) → some_of xs ≡ Some ys → (ys ≡ xs) × (ys ≢ [])
some_is [] ys e = absurd (cc)
some_is (x ∷ xs) ys e = let same : x ∷ xs ≡ ys = cc in (sym same, λ f. not_none (same ∙ f)) where
  not_none : x ∷ xs ≡ [] → ⊥
  not_none f = absurd (cc)

none_is : (xs : List Locator) → some_of xs ≡ None → xs ≡ []
none_is [] e = refl
none_is (x ∷ xs) e = absurd (cc)

same_leads : (n : NodeState) → with_discoveries n n.discoveries ≡ n
unfolding with_discoveries
same_leads n = refl

ceases : (n : NodeState) (asa : ℕ) (name : List ℕ) (kind : Kind) → Ceases n asa name kind (with_discoveries n (without_search n.discoveries asa (topic_of name kind)))
unfolding with_discoveries
ceases n asa name kind = record { leads = refl; gone = any_left (is_search_of asa (topic_of name kind)) n.discoveries.searches }

message_is : (n : NodeState) (name : List ℕ) (kind : Kind) (loops : ℕ) → discovery_message n name kind loops ≡ search_sent n name kind loops
message_is n name Negotiation loops = refl
message_is n name Synchronization loops = refl

searches : (n : NodeState) (asa : ℕ) (name : List ℕ) (kind : Kind) (loops timeout : ℕ) → cached n name kind ≡ [] → search_of n asa name kind ≡ None → is_full n.discoveries ≡ false
    → late (sending n (search_sent n name kind loops) (length (all_ways n.plan.links))) ≡ Ok tt → Searches n asa name kind loops timeout (begun n asa name kind loops timeout)
unfolding with_discoveries with_draw queue_up
searches n asa name Negotiation loops timeout e f g h =
    record { none_cached = e; none_kept = f; few = g; fits = sends n (search_sent n name Negotiation loops) (length (all_ways n.plan.links)) h; leads = refl }
searches n asa name Synchronization loops timeout e f g h =
    record { none_cached = e; none_kept = f; few = g; fits = sends n (search_sent n name Synchronization loops) (length (all_ways n.plan.links)) h; leads = refl }

pub discover_means_lem : DiscoverMeans
discover_means_lem n asa name kind loops timeout a m = record { registered = not-false (is_registered n.registrations asa) t.asa; tells = by_find (locators_of (cached_under topic n.discoveries.entries)) (find (is_search_of asa topic) n.discoveries.searches) refl refl t.sessions m.1 m.2 } where
  topic : Topic
  topic = topic_of name kind

  t : AllFail (discover_tests n asa (is_fresh (find_of n asa name kind)))
  t = all_fail (discover_tests n asa (is_fresh (find_of n asa name kind))) m.0

  Told : Find → Type 0
  Told f = is_fresh f && is_full n.discoveries ≡ false → late (searching n f name kind loops) ≡ Ok tt → a ≡ found_as f → DiscoverTells n asa name kind loops timeout a (looked n asa name kind loops timeout f)

  by_over : (search : Search) (b : Bool) → cached n name kind ≡ [] → search_of n asa name kind ≡ Some search → search.over ≡ b → Told (cond b find_as.Nothing find_as.NotYet)
  by_over search true e f g full h q =
      subst (λ (b : ApiAnswer). DiscoverTells n asa name kind loops timeout b (looked n asa name kind loops timeout find_as.Nothing)) (sym q) (record { none_cached = e; search = search; kept = f; is_over = g }, ceases n asa name kind)
  by_over search false e f g full h q =
      subst (λ (b : ApiAnswer). DiscoverTells n asa name kind loops timeout b (looked n asa name kind loops timeout find_as.NotYet)) (sym q) (record { none_cached = e; search = search; kept = f; is_over = g }, same_leads n)

  by_find : (l : Option (List Locator)) (s : Option Search) → locators_of (cached_under topic n.discoveries.entries) ≡ l → find (is_search_of asa topic) n.discoveries.searches ≡ s → Told (find_reply l s)
  by_find (Some locators) s e f full h q =
      let p = some_is (cached n name kind) locators e in
      subst (λ (b : ApiAnswer). DiscoverTells n asa name kind loops timeout b (looked n asa name kind loops timeout (find_as.Found locators))) (sym q) (p.0, p.1, ceases n asa name kind)
  by_find None (Some search) e f full h q = by_over search search.over (none_is (cached n name kind) e) f refl full h q
  by_find None None e f full h q =
      subst (λ (b : ApiAnswer). DiscoverTells n asa name kind loops timeout b (looked n asa name kind loops timeout find_as.Fresh)) (sym q)
      (searches n asa name kind loops timeout (none_is (cached n name kind) e) f full (subst (λ (x : Message). late (sending n x (length (all_ways n.plan.links))) ≡ Ok tt) (message_is n name kind loops) h))

flooded_is : (n : NodeState) (m : Message) → to_all (with_draw n) m ≡ record n { queue = n.queue ++ along m (all_ways n.plan.links); drawn = n.drawn + 1 }
unfolding with_draw queue_up
flooded_is n m = refl

pub flood_means_lem : FloodMeans
flood_means_lem n asa name value ttl loops a m =
    let t = all_fail (synchronization_tests n asa name) m.0 in
    let g = synchronizes n asa name t.asa t.synchronizable in
    let o = flood_sent n name g.flags value ttl loops in
    let same : flood_message n asa name value ttl loops ≡ o = ap (λ (f : Option ℕ). flood_sent n name (flags_or f) value ttl loops) g.own in
    record {
      done = m.2;
      synchronizes = g;
      fits = sends n o (length (all_ways n.plan.links)) (subst (λ (x : Message). late (sending n x (length (all_ways n.plan.links))) ≡ Ok tt) same m.1);
      leads = ap (to_all (with_draw n)) same ∙ flooded_is n o;
    }

pub get_means_lem : GetMeans
get_means_lem n asa name a m =
    let t = all_fail (agent_tests n asa) m.0 in
    record { registered = not-false (is_registered n.registrations asa) t.asa; told = m.2; leads = refl }

pub expire_means_lem : ExpireMeans
unfolding with_floods
expire_means_lem n asa name initiator a m =
    let t = all_fail (expire_flood_tests n asa name initiator) m.0 in
    record {
      done = m.2;
      registered = not-false (is_registered n.registrations asa) t.asa;
      was_kept = not-false (has_key (key_of name initiator) n.floods.entries) t.flood;
      leads = refl;
      gone = any_left (λ entry. same_key (key_of name initiator) entry.0) n.floods.entries;
    }
