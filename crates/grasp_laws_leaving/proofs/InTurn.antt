-- Which requests a node declines where nobody listens for them any more, and in which order.
use Rattle.std.proofs.Common.{◌≡◌, ◌≢◌, ◌<◌, ◌==◌, ◌-◌, ℕ, zero, suc, Bool, true, false, cond, List, [], ◌∷◌, ◌++◌, length, map, filter, All, Option, None, Some, refl, sym, ap, ◌∙◌, subst, arith}
use Rattle.std.specs.Prelude.{AllPairs, slice_index_or, take}
use Rattle.std.proofs.lemmas.List.{append-nil}
use Rattle.std.proofs.lemmas.List.Elements.{All-contains_itself, All-head, All-tail}
use Rattle.std.proofs.lemmas.Option.{same_Some}
use Rattle.grasp_asa.specs.Answers.{names_of}
use Rattle.grasp_asa.specs.declared.entry.Registered.{Registered}
use Rattle.grasp_laws_leaving.proofs.Listed.{IsOf, AreOf, of_both, Listed, listed_of}
use Rattle.grasp_laws_leaving.proofs.Turns.{Each, each_both, IsNew, Apart, all_queued}
use Rattle.grasp_laws_leaving.specs.InTurn.{AreUntaken, AreOfEach, decline_sent, DeclinesInTurn, owned_names, DeclinesAreInTurn}
use Rattle.grasp_laws_node.proofs.Beginning.{drain_of_nothing}
use Rattle.grasp_laws_node.proofs.Bounded.Nodes.{begin_kept}
use Rattle.grasp_laws_node.proofs.Consistent.Nodes.{ties_kept}
use Rattle.grasp_laws_node.specs.Consistent.{IsConsistent}
use Rattle.grasp_laws_node.specs.Means.{IsUntaken}
use Rattle.grasp_model_node.specs.Begin.{begin}
use Rattle.grasp_model_node.specs.BoundedNodes.{IsBoundedNode}
use Rattle.grasp_model_node.specs.Declines.{Declining, declines_of, after_declines}
use Rattle.grasp_model_node.specs.Draining.{drained, after_drain}
use Rattle.grasp_model_node.specs.Moves.{with_registrations, with_sessions, with_discoveries, begin_closing}
use Rattle.grasp_model_node.specs.Node.{NodeState}
use Rattle.grasp_model_node.specs.RegistryCalls.{declines_for, without_objective, without_agent, without_searches, close_stream, without_session, without_sessions, with_mark}
use Rattle.grasp_model_node.specs.Step.{Coming}
use Rattle.grasp_session.proofs.Tables.{state_slot}
use Rattle.grasp_session.specs.Made.{AreFresh}
use Rattle.grasp_session.specs.Runs.{Reached}
use Rattle.grasp_session.specs.Says.{IsAt}
use Rattle.grasp_session.specs.Sessions.{SessionState, Sessions, after_remove, owner_reply, stream_reply}
use Rattle.grasp_session.specs.Transcript.{request_of}
use Rattle.grasp_types.specs.declared.reply.Reply.TheVariants as reply
use Rattle.grasp_types.specs.declared.session.Handle.{Handle}
use Rattle.grasp_types.specs.declared.traffic.Input.TheVariants as input

-- ---- sessions that differ lie at different places

-- each of these differs from each of those
abbrev Different : List SessionState → Type 0
Different [] = Unit {0}
Different (x ∷ xs) = Each (λ (y : SessionState). ¬ (y ≡ x)) xs × Different xs

place_apart : (z : Sessions) (d : Declining) (x : SessionState) (ds : List Declining) (xs : List SessionState) → IsOf z d x → AreOf z ds xs → Each (λ (y : SessionState). ¬ (y ≡ x)) xs
    → Each (λ (e : Declining). e.handle.place ≢ d.handle.place) ds
place_apart z d x [] [] of all differ = tt
place_apart z d x [] (y ∷ ys) of all differ = absurd all
place_apart z d x (e ∷ ds) [] of all differ = absurd all
place_apart z d x (e ∷ ds) (y ∷ ys) of all differ = (
  λ same.
      differ.0
      (same_Some y x (sym (state_slot z e.handle y all.0.at) ∙ ap (λ place. slice_index_or z.places place None) same ∙ state_slot z d.handle x of.at)),
  place_apart z d x ds ys of all.1 differ.1,
)

pub all_apart : (z : Sessions) (ds : List Declining) (xs : List SessionState) → AreOf z ds xs → Different xs → Apart ds
all_apart z [] [] all differ = tt
all_apart z [] (x ∷ xs) all differ = absurd all
all_apart z (d ∷ ds) [] all differ = absurd all
all_apart z (d ∷ ds) (x ∷ xs) all differ = (place_apart z d x ds xs all.0 all.1 differ.0, all_apart z ds xs all.1 differ.1)

-- ---- those of one objective differ by their numbers

each_of : {X : Type 0} (P : X → Type 0) (xs : List X) → All P xs → Each P xs
each_of P [] all = tt
each_of P (x ∷ xs) all = (All-head P x xs all, each_of P xs (All-tail P x xs all))

pub each_weaker : {X : Type 0} (P Q : X → Type 0) (xs : List X) → ((x : X) → P x → Q x) → Each P xs → Each Q xs
each_weaker P Q [] f e = tt
each_weaker P Q (x ∷ xs) f e = (f x e.0, each_weaker P Q xs f e.1)

rising_differ : (xs : List SessionState) → AllPairs (λ (x y : SessionState). x.number < y.number) xs → Different xs
rising_differ [] rising = tt
rising_differ (x ∷ xs) rising = (
  each_of (λ (y : SessionState). ¬ (y ≡ x)) xs
      (λ j d within same.
      let lt = rising 0 (suc j) d (omega arith) (omega (arith, within)) in
      let number : (slice_index_or xs j d).number ≡ x.number = ap (λ (y : SessionState). y.number) same in
      omega (arith, lt, number)),
  rising_differ xs (λ i j d lt within. rising (suc i) (suc j) d (omega (arith, lt)) (omega (arith, within))),
)

-- ---- those of several, by the names

abbrev name_of : SessionState → List ℕ
name_of x = (request_of x.view).name

abbrev pub Names : List (List ℕ) → Type 0
Names [] = Unit {0}
Names (name ∷ names) = Each (λ other. other ≢ name) names × Names names

different_both : (xs ys : List SessionState) → Different xs → Different ys → Each (λ (x : SessionState). Each (λ (y : SessionState). ¬ (y ≡ x)) ys) xs → Different (xs ++ ys)
different_both [] ys a b across = b
different_both (x ∷ xs) ys a b across = (each_both (λ (y : SessionState). ¬ (y ≡ x)) xs ys a.0 across.0, different_both xs ys a.1 b across.1)

-- the declines for these objectives, with their sessions
pub record ListedFor (names : List (List ℕ)) (z : Sessions) (ds : List Declining) : Type 0 where
  pub sessions : List SessionState
  pub of : AreOf z ds sessions
  pub are : AreOfEach names z sessions
  pub different : Different sessions
  pub new : Each IsNew sessions
  -- each is of one of these names
  pub names_are : (name : List ℕ) → Each (λ other. other ≢ name) names → Each (λ (x : SessionState). name_of x ≢ name) sessions

pub untaken_each : (name : List ℕ) (z : Sessions) (xs : List SessionState) → AreUntaken name z xs → Each (λ (x : SessionState). (place : ℕ) × IsAt z place x × IsUntaken name x) xs
untaken_each name z xs are =
    each_of (λ (x : SessionState). (place : ℕ) × IsAt z place x × IsUntaken name x) xs
    (λ k d within. (are.each (slice_index_or xs k d)).0 (All-contains_itself xs k d within))

pub listed_for : (n : NodeState) (names : List (List ℕ)) → Reached n.sessions → AreFresh n.sessions → Names names → ListedFor names n.sessions (declines_for n.sessions names)
listed_for n [] reached fresh apart = record { sessions = []; of = tt; are = refl; different = tt; new = tt; names_are = λ name other. tt }
listed_for n (name ∷ names) reached fresh apart = both (listed_of name n reached) (listed_for n names reached fresh apart.1) where
  both : Listed name n.sessions (declines_of n.sessions name) → ListedFor names n.sessions (declines_for n.sessions names) → ListedFor (name ∷ names) n.sessions (declines_of n.sessions name ++ declines_for n.sessions names)
  both l rest = record {
    sessions = l.sessions ++ rest.sessions;
    of = of_both n.sessions (declines_of n.sessions name) l.sessions (declines_for n.sessions names) rest.sessions l.of rest.of;
    are = (l.sessions, rest.sessions, l.are, rest.are, refl);
    different =
        different_both l.sessions rest.sessions (rising_differ l.sessions l.are.rising) rest.different
        (each_weaker (λ (x : SessionState). (place : ℕ) × IsAt n.sessions place x × IsUntaken name x) (λ (x : SessionState). Each (λ (y : SessionState). ¬ (y ≡ x)) rest.sessions) l.sessions
        (λ x u.
        each_weaker (λ (y : SessionState). name_of y ≢ name) (λ (y : SessionState). ¬ (y ≡ x)) rest.sessions (λ y other same. other (ap name_of same ∙ u.2.name_is))
        (rest.names_are name apart.0))
        (untaken_each name n.sessions l.sessions l.are));
    new =
        each_both IsNew l.sessions rest.sessions
        (each_weaker (λ (x : SessionState). (place : ℕ) × IsAt n.sessions place x × IsUntaken name x) IsNew l.sessions (λ x u. fresh u.0 x u.1 u.2.owner) (untaken_each name n.sessions l.sessions l.are)) rest.new;
    names_are = λ it others.
        each_both (λ (x : SessionState). name_of x ≢ it) l.sessions rest.sessions
        (each_weaker (λ (x : SessionState). (place : ℕ) × IsAt n.sessions place x × IsUntaken name x) (λ (x : SessionState). name_of x ≢ it) l.sessions
        (λ x u same. others.0 (sym u.2.name_is ∙ same)) (untaken_each name n.sessions l.sessions l.are)) (rest.names_are it others.1);
  }

-- ---- what is queued

declined_for_names : (n m : NodeState) (names : List (List ℕ)) → m.queue ≡ n.queue → m.sessions ≡ n.sessions → Reached n.sessions → AreFresh n.sessions → Names names
    → DeclinesInTurn names n (after_declines m (declines_for n.sessions names))
declined_for_names n m names same_queue same_sessions reached fresh apart =
    let l = listed_for n names reached fresh apart in
    record {
      sessions = l.sessions;
      are = l.are;
      queue =
          all_queued m (declines_for n.sessions names) l.sessions (subst (λ (z : Sessions). AreOf z (declines_for n.sessions names) l.sessions) (sym same_sessions) l.of) l.new
          (all_apart n.sessions (declines_for n.sessions names) l.sessions l.of l.different)
          ∙ ap (λ queue. queue ++ take (256 - length queue) (map decline_sent l.sessions)) same_queue;
    }

one_name : (n m : NodeState) (name : List ℕ) → m.queue ≡ n.queue → m.sessions ≡ n.sessions → Reached n.sessions → AreFresh n.sessions → DeclinesInTurn (name ∷ []) n (after_declines m (declines_of n.sessions name))
one_name n m name same_queue same_sessions reached fresh =
    subst (λ ds. DeclinesInTurn (name ∷ []) n (after_declines m ds)) (append-nil (declines_of n.sessions name)) (declined_for_names n m (name ∷ []) same_queue same_sessions reached fresh (tt, tt))

-- what changes no queue leaves what was said of it
as_queued : (names : List (List ℕ)) (n after last : NodeState) → last.queue ≡ after.queue → DeclinesInTurn names n after → DeclinesInTurn names n last
as_queued names n after last same d = record { sessions = d.sessions; are = d.are; queue = same ∙ d.queue }

-- ---- each call

mark_keeps : (n : NodeState) (asa : ℕ) (name : List ℕ) (on : Bool) → ((with_mark n asa name on).queue ≡ n.queue) × ((with_mark n asa name on).sessions ≡ n.sessions)
unfolding with_registrations
mark_keeps n asa name on = (refl, refl)

objective_keeps : (n : NodeState) (asa : ℕ) (name : List ℕ) → ((without_objective n asa name).queue ≡ n.queue) × ((without_objective n asa name).sessions ≡ n.sessions)
unfolding with_registrations
objective_keeps n asa name = (refl, refl)

pub agent_keeps : (n : NodeState) (asa : ℕ) → ((without_agent n asa).queue ≡ n.queue) × ((without_agent n asa).sessions ≡ n.sessions)
unfolding with_registrations
agent_keeps n asa = (refl, refl)

searches_keep : (n : NodeState) (asa : ℕ) → (without_searches n asa).queue ≡ n.queue
unfolding with_discoveries
searches_keep n asa = refl

close_keeps : (n : NodeState) (o : Option ℕ) → (close_stream n o).queue ≡ n.queue
unfolding begin_closing
close_keeps n None = refl
close_keeps n (Some stream) = refl

sessions_keep : (n : NodeState) (z : Sessions) → (with_sessions n z).queue ≡ n.queue
unfolding with_sessions
sessions_keep n z = refl

session_keeps : (n : NodeState) (o : Option Handle) → (without_session n o).queue ≡ n.queue
session_keeps n None = refl
session_keeps n (Some h) = close_keeps (with_sessions n (after_remove n.sessions h)) (stream_reply n.sessions h) ∙ sessions_keep n (after_remove n.sessions h)

all_keep : (count : ℕ) (n : NodeState) (asa : ℕ) → (without_sessions count n asa).queue ≡ n.queue
unfolding without_sessions
all_keep zero n asa = refl
all_keep (suc count) n asa = session_keeps (without_sessions count n asa) (owner_reply (without_sessions count n asa).sessions asa) ∙ all_keep count n asa

-- the names of an agent's objectives differ
name_elsewhere : (asa : ℕ) (o : Registered) (os : List Registered) → All (λ (p : Registered). o.name ≢ p.name) os → Each (λ other. other ≢ o.name) (map (λ (x : Registered). x.name) (filter (λ (x : Registered). x.owner == asa) os))
name_elsewhere asa o [] all = tt
name_elsewhere asa o (p ∷ os) all = by (p.owner == asa) (name_elsewhere asa o os (All-tail (λ (q : Registered). o.name ≢ q.name) p os all)) where
  by : (b : Bool) → Each (λ other. other ≢ o.name) (map (λ (x : Registered). x.name) (filter (λ (x : Registered). x.owner == asa) os))
      → Each (λ other. other ≢ o.name) (map (λ (x : Registered). x.name) (cond b (p ∷ filter (λ (x : Registered). x.owner == asa) os) (filter (λ (x : Registered). x.owner == asa) os)))
  by true rest = ((λ e. All-head (λ (q : Registered). o.name ≢ q.name) p os all (sym e)), rest)
  by false rest = rest

pub names_differ : (asa : ℕ) (os : List Registered) → AllPairs (λ (o p : Registered). o.name ≢ p.name) os → Names (map (λ (x : Registered). x.name) (filter (λ (x : Registered). x.owner == asa) os))
names_differ asa [] apart = tt
names_differ asa (o ∷ os) apart = by (o.owner == asa) (names_differ asa os (λ i j d lt within. apart (suc i) (suc j) d (omega (arith, lt)) (omega (arith, within)))) where
  by : (b : Bool) → Names (map (λ (x : Registered). x.name) (filter (λ (x : Registered). x.owner == asa) os))
      → Names (map (λ (x : Registered). x.name) (cond b (o ∷ filter (λ (x : Registered). x.owner == asa) os) (filter (λ (x : Registered). x.owner == asa) os)))
  by true rest = (name_elsewhere asa o os (λ j d within. apart 0 (suc j) d (omega arith) (omega (arith, within))), rest)
  by false rest = rest

deregisters : (n : NodeState) (asa : ℕ) → IsBoundedNode n → AreFresh n.sessions
    → DeclinesInTurn (owned_names n asa) n (without_sessions 64 (without_searches (after_declines (without_agent n asa) (declines_for n.sessions (names_of n.registrations asa))) asa) asa)
deregisters n asa k fresh =
    let left = after_declines (without_agent n asa) (declines_for n.sessions (names_of n.registrations asa)) in
    as_queued (owned_names n asa) n left (without_sessions 64 (without_searches left asa) asa) (all_keep 64 (without_searches left asa) asa ∙ searches_keep left asa)
    (declined_for_names n (without_agent n asa) (owned_names n asa) (agent_keeps n asa).0 (agent_keeps n asa).1 k.sessions fresh (names_differ asa n.registrations.objectives k.registrations.objective_names))

-- ---- all of it

pub begin_fresh : (n : NodeState) (now : ℕ) (x : Coming) → IsBoundedNode n → IsConsistent n → AreFresh (begin n now).sessions
begin_fresh n now x k t =
    (subst IsConsistent (drain_of_nothing n now)
    (ties_kept.1 n (after_drain (begin n now) 0) now (input.Drain 0) x (reply.Outputs (drained (begin n now) 0)) k t (record { is_coming = tt; acts = (refl, refl) }))).fresh

pub declines_are_in_turn : DeclinesAreInTurn
declines_are_in_turn n after now asa x a k t = (
  λ name s.
      subst (DeclinesInTurn (name ∷ []) b) (sym s.acts.1) (one_name b (with_mark b asa name false) name (mark_keeps b asa name false).0 (mark_keeps b asa name false).1 kept.sessions fresh),
  λ name s.
      subst (DeclinesInTurn (name ∷ []) b) (sym s.acts.1) (one_name b (without_objective b asa name) name (objective_keeps b asa name).0 (objective_keeps b asa name).1 kept.sessions fresh),
  λ s. subst (DeclinesInTurn (owned_names b asa) b) (sym s.acts.1) (deregisters b asa kept fresh),
) where
  b : NodeState
  b = begin n now

  kept : IsBoundedNode b
  kept = begin_kept n now k

  fresh : AreFresh b.sessions
  fresh = begin_fresh n now x k t
