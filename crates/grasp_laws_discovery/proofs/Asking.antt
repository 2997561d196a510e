-- Where no two searches were begun under one session number at one address, whoever asks for a response asks for what its discovery looks for.
use Rattle.std.proofs.Common.{◌≡◌, refl, sym, ap, ◌∙◌, subst, ℕ, max, nat_lt, Bool, true, false, cond, List, [], ◌∷◌, Option, None, Some, All}
use Rattle.std.specs.Prelude.{Any, find}
use Rattle.std.proofs.lemmas.Bool.{eqb-true}
use Rattle.std.proofs.lemmas.List.Elements.{All-contains, All-filter, All-head, All-map, All-tail, All-weaker}
use Rattle.std.proofs.lemmas.Option.{none-some, same_Some}
use Rattle.grasp_laws_node.proofs.Remembered.{Begun, begun}
use Rattle.grasp_model_node.specs.Begin.{begin}
use Rattle.grasp_model_node.specs.declared.plan.NodePlan.{NodePlan}
use Rattle.grasp_discovery.specs.Discoveries.{Discoveries, is_numbered, memory_of, own_search, asked, asker_of, after_reading, after_expiry}
use Rattle.grasp_discovery.specs.Topic.{topic_of, kind_of}
use Rattle.grasp_discovery.specs.declared.answers.Answered.{Answered}
use Rattle.grasp_discovery.specs.declared.answers.Answered.TheVariants.{Mine, Relay}
use Rattle.grasp_discovery.specs.declared.memory.Memory.{Memory}
use Rattle.grasp_discovery.specs.declared.search.Search.{Search}
use Rattle.grasp_discovery.specs.declared.topic.Topic.{Topic}
use Rattle.grasp_model_network.specs.Notes.{SearchesDiffer}
use Rattle.grasp_model_network.specs.Runs.{IsReached}
use Rattle.grasp_model_network.specs.Setting.{Setting}
use Rattle.grasp_model_network.specs.World.{Seat, SentDatagram, WorldState, seat_at}
use Rattle.grasp_laws_floods.specs.Laws.{DiscoveriesAreReal}
use Rattle.grasp_laws_floods.specs.Sought.{Sought, IsBegunIn, IsOfSearch, IsMessageSought, IsMemorySought, IsKeptSearch, DiscoveriesAreSought, SearchIsTold}
use Rattle.grasp_types.proofs.Same.{same_address_decides, same_origin_decides}
use Rattle.grasp_types.specs.Origin.{origin_of}
use Rattle.grasp_types.specs.Same.{same_address, same_origin}
use Rattle.grasp_types.specs.declared.address.Address.{Address}
use Rattle.grasp_types.specs.declared.message.Message.{Message}
use Rattle.grasp_types.specs.declared.message.Message.TheVariants.{Discovery}
use Rattle.grasp_types.specs.declared.origin.Origin.{Origin}
use Rattle.grasp_laws_discovery.specs.Laws.{LookedForIsSearched}
use Rattle.grasp_laws_discovery.specs.Locators.{LooksFor, WasLookedFor, IsTheSearch}

-- ---- what a look-up finds

found_so : {X : Type 0} (P : X → Type 0) (p : X → Bool) (xs : List X) (x : X) → All P xs → find p xs ≡ Some x → P x × (p x ≡ true)
found_so P p [] x all e = absurd (none-some x e)
found_so P p (y ∷ ys) x all e = by_test (p y) refl e (found_so P p ys x (All-tail P y ys all)) where
  by_test : (b : Bool) → p y ≡ b → cond b (Some y) (find p ys) ≡ Some x → (find p ys ≡ Some x → P x × (p x ≡ true)) → P x × (p x ≡ true)
  by_test true is f rest = (subst P (same_Some y x f) (All-head P y ys all), ap p (sym (same_Some y x f)) ∙ is)
  by_test false is f rest = rest f

-- what is remembered of an origin
abbrev IsSoOf : (Origin → Topic → Type 0) → Origin × Memory → Type 0
IsSoOf P memory = P memory.0 memory.1.topic

remembered_so : (P : Origin → Topic → Type 0) (origin : Origin) (xs : List (Origin × Memory)) (m : Memory) → All (IsSoOf P) xs → memory_of origin xs ≡ Some m → P origin m.topic
remembered_so P origin [] m all e = absurd (none-some m e)
remembered_so P origin (x ∷ xs) m all e = by_test (same_origin origin x.0) (same_origin_decides origin x.0).0 e (remembered_so P origin xs m (All-tail (IsSoOf P) x xs all)) where
  by_test : (b : Bool) → (b ≡ true → origin ≡ x.0) → cond b (Some x.1) (memory_of origin xs) ≡ Some m → (memory_of origin xs ≡ Some m → P origin m.topic) → P origin m.topic
  by_test true same f rest =
      subst (λ (y : Memory). P origin y.topic) (same_Some x.1 m f) (subst (λ (y : Origin). P y x.1.topic) (sym (same refl)) (All-head (IsSoOf P) x xs all))
  by_test false same f rest = rest f

-- ---- what a node keeps of searches

-- each search and each memory of a discovery that a node keeps is of one of these searches
pub record IsSettled (w : WorldState) (sought : List Sought) (node : ℕ) (d : Discoveries) : Type 0 where
  pub searches : All (λ search. Any (IsKeptSearch node search) sought) d.searches
  pub memories : All (IsMemorySought w sought) d.memories

module _ (w : WorldState) (sought : List Sought) (node : ℕ) (begun_in : All (IsBegunIn w) sought) where
  abbrev kept : Search → Type 0
  kept search = Any (IsKeptSearch node search) sought

  reading_kept : (now : ℕ) (search : Search) → kept search → kept (after_reading now search)
  reading_kept now search (k, x, within, at, is) = (k, x, within, at, record { node_is = is.node_is; session_is = is.session_is; topic_is = is.topic_is })

  expiry_settled : (d : Discoveries) (now : ℕ) → IsSettled w sought node d → IsSettled w sought node (after_expiry d now)
  expiry_settled d now k = record {
    searches = All-map kept (after_reading now) d.searches (All-weaker kept (λ search. kept (after_reading now search)) (reading_kept now) d.searches k.searches);
    memories = All-filter (λ (memory : Origin × Memory). nat_lt now memory.1.end) (IsMemorySought w sought) d.memories k.memories;
  }

  -- ---- who asks

  -- a search of this node is one of its initiator
  own_is : (seat : Seat) (session : ℕ) (initiator : Address) (search : Search) → seat_at w node ≡ Some seat → seat.core.plan.address ≡ initiator → kept search → is_numbered session search ≡ true
      → Any (IsOfSearch w session initiator search.topic) sought
  own_is seat session initiator search here own (k, x, within, at, is) number = (k, x, within, at, of_seat (All-contains (IsBegunIn w) sought x begun_in (k, within, at))) where
    begun_here : seat_at w x.search.node ≡ Some seat
    begun_here = subst (λ n. seat_at w n ≡ Some seat) (sym is.node_is) here

    of_seat : IsBegunIn w x → IsOfSearch w session initiator search.topic x
    of_seat b = record {
      seat = seat;
      begun_at = begun_here;
      address = sym own;
      told = sym own ∙ sym (b.address ∙ ap (λ (y : Seat). y.core.plan.address) (same_Some b.seat seat (sym b.begun_at ∙ begun_here)));
      session_is = sym (eqb-true search.session session number) ∙ is.session_is;
      topic_is = is.topic_is;
    }

  searched_is : (own : Address) (seat : Seat) (d : Discoveries) (session : ℕ) (initiator : Address) (search : Search) → seat_at w node ≡ Some seat → own ≡ seat.core.plan.address → IsSettled w sought node d
      → own_search d own (origin_of session initiator) ≡ Some search → Any (IsOfSearch w session initiator search.topic) sought
  searched_is own seat d session initiator search here plan k e = by_test (same_address own initiator) (same_address_decides own initiator).0 e where
    by_test : (b : Bool) → (b ≡ true → own ≡ initiator) → cond b (find (is_numbered session) d.searches) None ≡ Some search → Any (IsOfSearch w session initiator search.topic) sought
    by_test true same f = found (found_so kept (is_numbered session) d.searches search k.searches f) where
      found : kept search × (is_numbered session search ≡ true) → Any (IsOfSearch w session initiator search.topic) sought
      found x = own_is seat session initiator search here (sym plan ∙ same refl) x.0 x.1
    by_test false same f = absurd (none-some search f)

  asker_is : (own : Address) (seat : Seat) (d : Discoveries) (session : ℕ) (initiator : Address) (asker : Answered × Topic) → seat_at w node ≡ Some seat → own ≡ seat.core.plan.address
      → IsSettled w sought node d → asker_of d own (origin_of session initiator) ≡ Some asker → Any (IsOfSearch w session initiator asker.1) sought
  asker_is own seat d session initiator asker here plan k e = by_search (own_search d own (origin_of session initiator)) refl e where
    by_memory : (o : Option Memory) → memory_of (origin_of session initiator) d.memories ≡ o → asked None o ≡ Some asker → Any (IsOfSearch w session initiator asker.1) sought
    by_memory None is f = absurd (none-some asker f)
    by_memory (Some memory) is f =
        subst (λ (a : Answered × Topic). Any (IsOfSearch w session initiator a.1) sought) (same_Some (Relay memory.cause, memory.topic) asker f)
        (remembered_so (λ origin topic. Any (IsOfSearch w origin.session origin.initiator topic) sought) (origin_of session initiator) d.memories memory k.memories is)

    by_search : (o : Option Search) → own_search d own (origin_of session initiator) ≡ o → asked o (memory_of (origin_of session initiator) d.memories) ≡ Some asker
        → Any (IsOfSearch w session initiator asker.1) sought
    by_search (Some search) is f =
        subst (λ (a : Answered × Topic). Any (IsOfSearch w session initiator a.1) sought) (same_Some (Mine, search.topic) asker f) (searched_is own seat d session initiator search here plan k is)
    by_search None is f = by_memory (memory_of (origin_of session initiator) d.memories) refl f

-- ---- a discovery that was sent is its search's

message_is : (w : WorldState) (sought : List Sought) (session : ℕ) (initiator : Address) (topic : Topic) (m : Message) → LooksFor session initiator topic m → IsMessageSought w sought m
    → Any (IsOfSearch w session initiator topic) sought
message_is w sought session initiator topic (Discovery number from o) l k =
    subst (λ t. Any (IsOfSearch w session initiator t) sought) l.2
    (subst (λ a. Any (IsOfSearch w session a (topic_of o.name (kind_of o.flags))) sought) l.1
    (subst (λ n. Any (IsOfSearch w n from (topic_of o.name (kind_of o.flags))) sought) l.0 k.search))
message_is w sought session initiator topic _ l k = absurd l

looked_for_is : (w : WorldState) (k : DiscoveriesAreSought w) (session : ℕ) (initiator : Address) (topic : Topic) → WasLookedFor w session initiator topic
    → Any (IsOfSearch w session initiator topic) k.sought
looked_for_is w k session initiator topic (i, d, within, at, is) =
    message_is w k.sought session initiator topic d.message is
    (All-contains (λ (x : SentDatagram). IsMessageSought w k.sought x.message) w.datagrams d k.sent (i, within, at))

pub looked_for_is_searched : SearchIsTold → LookedForIsSearched
looked_for_is_searched told s w r differ k session initiator topic l = from (looked_for_is w k session initiator topic l) where
  from : Any (IsOfSearch w session initiator topic) k.sought → IsTheSearch w k session initiator topic
  from is = record { is_search = is; only = λ other o. told s w r differ k session initiator other topic o is }

-- ---- whoever asks

-- whoever asks a node for a response asks for what is looked for
abbrev pub AsksForIt : WorldState → NodePlan → Discoveries → Type 0
AsksForIt w plan d = (session : ℕ) (initiator : Address) (topic : Topic) (asker : Answered × Topic) → asker_of d plan.address (origin_of session initiator) ≡ Some asker
    → WasLookedFor w session initiator topic → topic ≡ asker.1

module _ (real : DiscoveriesAreReal) (told : SearchIsTold) where
  settled_asks : (s : Setting) (w : WorldState) → IsReached s w → SearchesDiffer w → (k : DiscoveriesAreSought w) → (node : ℕ) (seat : Seat) (plan : NodePlan) (d : Discoveries) → seat_at w node ≡ Some seat
      → plan ≡ seat.core.plan → IsSettled w k.sought node d → AsksForIt w plan d
  settled_asks s w r differ k node seat plan d here same settled session initiator topic asker e l =
      told s w r differ k session initiator topic asker.1 (looked_for_is w k session initiator topic l)
      (asker_is w k.sought node k.begun plan.address seat d session initiator asker here (ap (λ (p : NodePlan). p.address) same) settled e)

  -- as a node's step begins, whoever asks it for a response asks for what is looked for
  pub begun_asks : (s : Setting) (w : WorldState) → IsReached s w → SearchesDiffer w → (node : ℕ) (seat : Seat) (now : ℕ) → seat_at w node ≡ Some seat
      → AsksForIt w (begin seat.core now).plan (begin seat.core now).discoveries
  begun_asks s w r differ node seat now here = from (real.reached s w r) (begun seat.core now) where
    from : DiscoveriesAreSought w → Begun seat.core (begin seat.core now) now → AsksForIt w (begin seat.core now).plan (begin seat.core now).discoveries
    from k b =
        settled_asks s w r differ k node seat (begin seat.core now).plan (begin seat.core now).discoveries here b.plan
        (subst (IsSettled w k.sought node) (sym b.discoveries)
        (expiry_settled w k.sought node k.begun seat.core.discoveries (max seat.core.reading now) (record { searches = k.kept node seat here; memories = k.remembered node seat here })))
