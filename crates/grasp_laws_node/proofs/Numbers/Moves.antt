-- No move of a node adds a number to those in use but the beginning of a session that it requests, and of a search.
use Rattle.std.proofs.Common.{◌≡◌, ℕ, ◌+◌, ◌≤◌, Bool, true, false, cond, List, [], ◌∷◌, ◌++◌, map, filter, Option, Some, None, ◌⊎◌, inl, inr, Ok, refl, arith, subst, sym}
use Rattle.grasp_discovery.specs.Discoveries as discovery
use Rattle.grasp_discovery.specs.Discoveries.{Discoveries}
use Rattle.grasp_discovery.specs.Topic.{topic_of}
use Rattle.grasp_discovery.specs.declared.answers.Answered.{Answered}
use Rattle.grasp_discovery.specs.declared.answers.Find.{Find}
use Rattle.grasp_discovery.specs.declared.answers.Find.TheVariants as find
use Rattle.grasp_discovery.specs.declared.search.Search.{Search}
use Rattle.grasp_discovery.specs.declared.topic.Topic.{Topic}
use Rattle.grasp_session.specs.Sessions.{start_reply}
use Rattle.grasp_session.specs.Transcript.{SayEnd}
use Rattle.grasp_types.specs.Origin.{origin_of}
use Rattle.grasp_types.specs.declared.address.Locator.{Locator}
use Rattle.grasp_types.specs.declared.reply.Reply.{Reply}
use Rattle.grasp_types.specs.declared.traffic.Input.{Input}
use Rattle.grasp_model_node.specs.Begin.{begin}
use Rattle.grasp_model_node.specs.Declines.{unlistened, declined_for}
use Rattle.grasp_model_node.specs.Draws.{next_session}
use Rattle.grasp_model_node.specs.Hear.{untaken, answered_with}
use Rattle.grasp_model_node.specs.Node.{NodeState}
use Rattle.grasp_model_node.specs.SessionCalls.{begun_by}
use Rattle.grasp_model_node.specs.Step.{Coming, IsComing, Acts}
use Rattle.grasp_laws_node.proofs.SessionWeights.{total, sessions_weight, Lightens, same_light, say_light, receive_light, mark_light, expire_light, remove_light, poll_light, adopt_light, listener_light, start_weight}
use Rattle.grasp_laws_node.proofs.Walk.Moves as move
use Rattle.grasp_laws_node.proofs.Walk.Moves.{Turn, Move, anything, begins, kept, unfolded}
use Rattle.grasp_laws_node.proofs.Walk.Steps.{begin_moves, turn_of, tells_anything, acts_moves}

-- what the searches weigh
abbrev pub searches_weight : (ℕ → ℕ) → Discoveries → ℕ
searches_weight f d = total f (map (λ (search : Search). search.session) d.searches)

abbrev pub Thins : Discoveries → Discoveries → Type 0
Thins d e = (f : ℕ → ℕ) → searches_weight f e ≤ searches_weight f d

-- whatever a number weighs, neither the sessions nor the searches weigh more
pub record Lighter (n a : NodeState) : Type 0 where
  pub sessions : Lightens n.sessions a.sessions
  pub searches : Thins n.discoveries a.discoveries

same_thin : (d : Discoveries) → Thins d d
same_thin d f = omega arith

lighter_refl : (n : NodeState) → Lighter n n
lighter_refl n = record { sessions = same_light n.sessions; searches = same_thin n.discoveries }

lighter_trans : (n a b : NodeState) → Lighter n a → Lighter a b → Lighter n b
lighter_trans n a b p q = record {
  sessions = λ f. let g = p.sessions f in let h = q.sessions f in omega (arith, g, h);
  searches = λ f. let g = p.searches f in let h = q.searches f in omega (arith, g, h);
}

-- the sessions and the searches stay
lighter_same : (n a : NodeState) → a.sessions ≡ n.sessions → a.discoveries ≡ n.discoveries → Lighter n a
lighter_same n a s d = record {
  sessions = subst (Lightens n.sessions) (sym s) (same_light n.sessions);
  searches = subst (Thins n.discoveries) (sym d) (same_thin n.discoveries);
}

lighter_sessions : (n a : NodeState) → Lightens n.sessions a.sessions → a.discoveries ≡ n.discoveries → Lighter n a
lighter_sessions n a l d = record { sessions = l; searches = subst (Thins n.discoveries) (sym d) (same_thin n.discoveries) }

lighter_searches : (n a : NodeState) → a.sessions ≡ n.sessions → Thins n.discoveries a.discoveries → Lighter n a
lighter_searches n a s t = record { sessions = subst (Lightens n.sessions) (sym s) (same_light n.sessions); searches = t }

-- whatever a number weighs, the node weighs at most that of this number more
abbrev pub Adds : ℕ → NodeState → NodeState → Type 0
Adds x n a = (f : ℕ → ℕ) → sessions_weight f a.sessions + searches_weight f a.discoveries ≤ (sessions_weight f n.sessions + searches_weight f n.discoveries) + f x

-- ---- searches

read_searches : (now : ℕ) (f : ℕ → ℕ) (searches : List Search)
    → total f (map (λ (search : Search). search.session) (map (discovery.after_reading now) searches)) ≤ total f (map (λ (search : Search). search.session) searches)
read_searches now f [] = omega arith
read_searches now f (search ∷ searches) = let e = read_searches now f searches in omega (arith, e)

answered_thin : (d : Discoveries) (last : ℕ) (locators : List Locator) (o : Option (Answered × Topic)) → Thins d (discovery.after_answered d last locators o)
answered_thin d last locators None f = omega arith
answered_thin d last locators (Some asker) f = omega arith

filter_thin : (test : Search → Bool) (f : ℕ → ℕ) (searches : List Search)
    → total f (map (λ (search : Search). search.session) (filter test searches)) ≤ total f (map (λ (search : Search). search.session) searches)
filter_thin test f [] = omega arith
filter_thin test f (search ∷ searches) = by_test (test search) (filter_thin test f searches) where
  by_test : (b : Bool) → total f (map (λ (search : Search). search.session) (filter test searches)) ≤ total f (map (λ (search : Search). search.session) searches)
      → total f (map (λ (search : Search). search.session) (cond b (search ∷ filter test searches) (filter test searches))) ≤ f search.session + total f (map (λ (search : Search). search.session) searches)
  by_test true e = omega (arith, e)
  by_test false e = omega (arith, e)

search_weight : (f : ℕ → ℕ) (searches : List Search) (search : Search)
    → total f (map (λ (search : Search). search.session) (searches ++ search ∷ [])) ≡ total f (map (λ (search : Search). search.session) searches) + f search.session
search_weight f [] search = omega arith
search_weight f (x ∷ searches) search = let e = search_weight f searches search in omega (arith, e)

find_thin : (d : Discoveries) (asa : ℕ) (topic : Topic) (answer : Find) → Thins d (discovery.after_find d asa topic answer)
find_thin d asa topic (find.Found locators) f = filter_thin _ f d.searches
find_thin d asa topic find.NotYet f = omega arith
find_thin d asa topic find.Nothing f = filter_thin _ f d.searches
find_thin d asa topic find.Fresh f = omega arith

-- ---- moves

-- only a call adds a number
abbrev MayAdd : Turn → Type 0
MayAdd begins = ⊥
MayAdd turn = Unit {0}

-- nothing weighs more, or the number that the base draws next is added to those that it has in use
abbrev Weighs : Turn → NodeState → NodeState → NodeState → Type 0
Weighs turn base n after = Lighter n after ⊎ (MayAdd turn × (n ≡ base) × Adds (next_session n) n after)

move_weighs : (base : NodeState) (turn : Turn) (n after : NodeState) → Move anything base n turn after → Weighs turn base n after
unfolding unfolded
move_weighs base turn n after (move.times_out stream e) = inl (lighter_sessions n _ (expire_light n.sessions n.reading) refl)
move_weighs base turn n after move.ends_discoveries = inl (lighter_searches n _ refl (λ f. read_searches n.reading f n.discoveries.searches))
move_weighs base turn n after (move.marks {stream = stream} mark) = inl (lighter_sessions n _ (mark_light n.sessions stream mark) refl)
move_weighs base turn n after (move.keeps {stream = stream} m e) = inl (lighter_sessions n _ (receive_light n.sessions n.reading stream m e) refl)
move_weighs base turn n after (move.listens {stream = stream} session o h so e free heard) = inl (lighter_sessions n _ (listener_light n.sessions n.reading (untaken stream session o) h refl) refl)
move_weighs base turn n after (move.caches session initiator ttl told o so) = inl (lighter_searches n _ refl (answered_thin n.discoveries (discovery.end_of n.reading ttl) (answered_with told) (discovery.asker_of n.discoveries n.plan.address (origin_of session initiator))))
move_weighs base turn n after (move.remembers cause session initiator o e) = inl (lighter_searches n _ refl (λ f. omega arith))
move_weighs base turn n after (move.says h saying may so e room fit) = inl (lighter_sessions n _ (say_light n.sessions n.reading h saying) refl)
move_weighs base turn n after (move.declines d i so e room) = inl (lighter_sessions n _ (say_light n.sessions n.reading d.handle (SayEnd (declined_for unlistened))) refl)
move_weighs base turn n after (move.removes h) = inl (lighter_sessions n _ (remove_light n.sessions h) refl)
move_weighs base turn n after (move.polls h progress e) = inl (lighter_sessions n _ (poll_light n.sessions h (Ok progress)) refl)
move_weighs base turn n after (move.adopts {asa = asa} h e own) = inl (lighter_sessions n _ (adopt_light n.sessions asa h) refl)
move_weighs base turn n after move.forgets = inl (lighter_searches n _ refl (λ f. filter_thin _ f n.discoveries.searches))
move_weighs base turn n after (move.finds {asa = asa} name kind answer) = inl (lighter_searches n _ refl (find_thin n.discoveries asa (topic_of name kind) answer))
move_weighs base turn n after (move.asks {asa = asa} kind timeout o peer is so e free room fit) =
    inr (tt, is, λ f. let s = start_weight n.sessions n.reading (begun_by n asa kind timeout o) (start_reply n.sessions) refl f in omega (arith, s))
move_weighs base turn n after (move.searches {asa = asa} name kind loops timeout is fresh free room fit) =
    inr (tt, is, λ f. let e = search_weight f n.discoveries.searches (discovery.search_from n.reading asa (topic_of name kind) (next_session n) timeout) in omega (arith, e))
move_weighs base turn n after _ = inl (lighter_same n _ refl refl)

-- ---- the beginning of a step, and what an input does

pub begin_lighter : (n : NodeState) (now : ℕ) → Lighter n (begin n now)
begin_lighter n now = kept (Lighter n) (λ m after x l. by_case m after l (move_weighs n begins m after x)) (begin_moves anything n n now) (lighter_refl n) where
  by_case : (m after : NodeState) → Lighter n m → Weighs begins n m after → Lighter n after
  by_case m after l (inl g) = lighter_trans n m after l g
  by_case m after l (inr g) = absurd g.0

pub acts_add : (n : NodeState) (i : Input) (x : Coming) (r : Reply) (after : NodeState) → IsComing n i x → Acts n i x r after → Adds (next_session n) n after
acts_add n i x r after c a = kept (Adds (next_session n) n) (λ m next y l. by_case m next l (move_weighs n (turn_of i) m next y)) (acts_moves anything n after i x r c (tells_anything n i x r after) a) (λ f. omega arith) where
  by_case : (m next : NodeState) → Adds (next_session n) n m → Weighs (turn_of i) n m next → Adds (next_session n) n next
  by_case m next l (inl g) f = let s = g.sessions f in let t = g.searches f in let u = l f in omega (arith, s, t, u)
  by_case m next l (inr g) f = subst (λ (b : NodeState). Adds (next_session b) b next) g.1 g.2 f
