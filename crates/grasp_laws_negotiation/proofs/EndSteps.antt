-- The part of an end of a talk in a step of its node, or of another node.
use Rattle.std.proofs.Common.{◌≡◌, ℕ, ◌==◌, Bool, true, false, cond, List, [], ◌++◌, ◌⊎◌, inl, inr, Option, Some, None, reverse, refl, sym, ap, ◌∙◌, subst, append_assoc}
use Rattle.std.proofs.lemmas.List.{append-nil, reverse-append}
use Rattle.grasp_model_node.specs.Begin.{begin}
use Rattle.grasp_model_node.specs.Bytes.{past_after}
use Rattle.grasp_model_node.specs.Node.{NodeState}
use Rattle.grasp_model_node.specs.BoundedNodes.{IsGiven}
use Rattle.grasp_model_node.specs.Step.{Coming}
use Rattle.grasp_model_node.specs.Streams.{past_of}
use Rattle.grasp_types.proofs.Facts.{append_none}
use Rattle.grasp_types.specs.declared.message.Message.{Message}
use Rattle.grasp_types.specs.declared.traffic.Input.{Input}
use Rattle.grasp_types.specs.declared.traffic.Input.TheVariants as input
use Rattle.grasp_wire.specs.Cutter.{Past, no_past}
use Rattle.grasp_laws_node_stories.specs.Stories.{came_by, came_on, fault_on, past_with, KeptOpen, NewlyOpen, Story, gained}
use Rattle.grasp_laws_node_stories.specs.StreamMoves.{view_on, StreamMove, heard_in, is_last_move, some_move, sends_on}
use Rattle.grasp_laws_session.proofs.Reaching.{inbox_is_next}
use Rattle.grasp_session.specs.Conversation.{spoken}
use Rattle.grasp_session.specs.Messages.{Side, other}
use Rattle.grasp_session.specs.Talk.{Stage, Absent, Refused, Party, Talk, party, Reached}
use Rattle.grasp_session.specs.Transcript.{Transcript}
use Rattle.grasp_laws_network.specs.Keeping.{IsLonger}
use Rattle.grasp_model_network.specs.Streams.{StreamEnd}
use Rattle.grasp_model_network.specs.World.{Seat, WorldState, seat_at}
use Rattle.grasp_laws_negotiation.proofs.Standing.{view_seat, OpenStands, EndStands, SideStands}
use Rattle.grasp_laws_negotiation.proofs.TalkRuns.{Part}
use Rattle.grasp_laws_negotiation.proofs.TalkSteps.{Fits}

-- what came on a stream of a node in a step: the next messages that the other side said, without a fault, on a stream that isn't dialled then
pub record ComesInOrder (n : NodeState) (now : ℕ) (i : Input) (x : Coming) (stream : ℕ) (said : List Message) : Type 0 where
  pub given : IsGiven n.streams.dialled stream
  pub no_fault : fault_on (past_of (begin n now).streams stream) i x stream ≡ false
  pub front : (past : Past) → past_of (begin n now).streams stream ≡ Some past → IsLonger (past.given ++ came_by i x stream) said

-- ---- before the step

record Ahead (side : Side) (t : Talk) (ms : List StreamMove) : Type 0 where
  left : List Message
  ahead : (party t side).inbox ≡ heard_in ms ++ left
  awake : (party t side).stage ≡ Refused → heard_in ms ≡ []

nothing_came : (side : Side) (t : Talk) (ms : List StreamMove) → heard_in ms ≡ [] → Ahead side t ms
nothing_came side t ms e = record { left = (party t side).inbox; ahead = ap (λ (l : List Message). l ++ (party t side).inbox) (sym e); awake = λ _. e }

came_next : (side : Side) (t : Talk) (ms : List StreamMove) (past : Past) (came unheard : List Message) → Reached t → OpenStands past (party t side) → IsLonger (past.given ++ came) (reverse (spoken (other side) t.said))
    → came ≡ heard_in ms ++ unheard → Ahead side t ms
came_next side t ms past came unheard r o l e = record {
  left = unheard ++ l.0;
  ahead = inbox_is_next t r side past.given (heard_in ms ++ (unheard ++ l.0)) o.taken
      (l.1 ∙ (append_assoc past.given came l.0 ∙ ap (λ (k : List Message). past.given ++ k) (ap (λ (k : List Message). k ++ l.0) e ∙ append_assoc (heard_in ms) unheard l.0)));
  awake = λ f. absurd (o.awake f);
}

is_ahead : (side : Side) (t : Talk) (n after : NodeState) (now : ℕ) (i : Input) (x : Coming) (stream : ℕ) (q : Story n now i x after stream) → Reached t
    → ((past : Past) → past_of n.streams stream ≡ Some past → OpenStands past (party t side)) → ComesInOrder n now i x stream (reverse (spoken (other side) t.said)) → Ahead side t q.moves
is_ahead side t n after now i x stream q r opens c = by_past (past_of (begin n now).streams stream) refl where
  by_past : (o : Option Past) → past_of (begin n now).streams stream ≡ o → Ahead side t q.moves
  by_past None e = nothing_came side t q.moves (append_none (heard_in q.moves) q.unheard (sym (ap (λ (o : Option Past). came_on o i x stream) e) ∙ q.heard))
  by_past (Some past) e =
      came_next side t q.moves past (came_by i x stream) q.unheard r (opens past (q.begun past e)) (c.front past e)
      (sym (ap (λ (o : Option Past). came_on o i x stream) e) ∙ q.heard)

-- ---- after the step

given_with : (past : Past) (i : Input) (x : Coming) (stream : ℕ) → (past_with past i x stream).given ≡ past.given ++ came_by i x stream
given_with past (input.Bytes s bytes) x stream = by_test (s == stream) where
  by_test : (b : Bool) → (cond b (past_after past bytes x.added) past).given ≡ past.given ++ cond b x.added.messages []
  by_test true = refl
  by_test false = sym (append-nil past.given)
given_with past _ x stream = sym (append-nil past.given)

-- what is new: an end that is opened in this step has taken nothing and didn't decline
pub record IsNewEnd (p : Party) : Type 0 where
  pub none_taken : p.taken ≡ []
  pub awake : p.stage ≡ Refused → ⊥

stays_open : (before past : Past) (i : Input) (x : Coming) (stream : ℕ) (heard : List Message) (p q : Party) → past ≡ past_with before i x stream → heard ≡ came_by i x stream → OpenStands before p
    → q.taken ≡ reverse heard ++ p.taken → (q.stage ≡ Refused → p.stage ≡ Refused) → OpenStands past q
stays_open before past i x stream heard p q is all o taken awake = record {
  taken = taken
      ∙ (ap (λ (l : List Message). reverse heard ++ l) o.taken
      ∙ (sym (reverse-append before.given heard)
      ∙ ap reverse (ap (λ (l : List Message). before.given ++ l) all ∙ (sym (given_with before i x stream) ∙ ap (λ (k : Past). k.given) (sym is)))));
  awake = λ f. o.awake (awake f);
}

opens_new : (past : Past) (heard : List Message) (p q : Party) → past ≡ no_past → heard ≡ [] → IsNewEnd p → q.taken ≡ reverse heard ++ p.taken → (q.stage ≡ Refused → p.stage ≡ Refused) → OpenStands past q
opens_new past heard p q is none o taken awake = record {
  taken = taken ∙ (ap (λ (l : List Message). reverse l ++ p.taken) none ∙ (o.none_taken ∙ ap (λ (k : Past). reverse k.given) (sym is)));
  awake = λ f. o.awake (awake f);
}

-- ---- an end at the node of the step

module _ (w y : WorldState) (node : ℕ) (seat new : Seat) (here : seat_at w node ≡ Some seat) (there : seat_at y node ≡ Some new) where
  open_before : (e : StreamEnd) (p : Party) → e.node ≡ node → EndStands w e p → (past : Past) → past_of seat.core.streams e.number ≡ Some past → OpenStands past p
  open_before e p at s past f = s.opens seat past (ap (λ k. seat_at w k) at ∙ here) f

  view_before : (e : StreamEnd) → e.node ≡ node → view_seat e.number (seat_at w e.node) ≡ view_on seat.core e.number
  view_before e at = ap (λ o. view_seat e.number o) (ap (λ k. seat_at w k) at ∙ here)

  view_after : (e : StreamEnd) → e.node ≡ node → view_seat e.number (seat_at y e.node) ≡ view_on new.core e.number
  view_after e at = ap (λ o. view_seat e.number o) (ap (λ k. seat_at y k) at ∙ there)

  pub here_part : (now : ℕ) (i : Input) (x : Coming) (side : Side) (t : Talk) (e : StreamEnd) (voiced : List Message) → e.node ≡ node → (q : Story seat.core now i x new.core e.number) → Reached t
      → EndStands w e (party t side) → ComesInOrder seat.core now i x e.number (reverse (spoken (other side) t.said))
      → ((past : Past) → NewlyOpen seat.core now i e.number q.moves past → IsNewEnd (party t side)) → voiced ≡ sends_on e.number (gained seat.core new.core) → Part side t voiced (EndStands y e)
  here_part now i x side t e voiced at q r s c fresh v = record {
    view = view_on seat.core e.number;
    moves = q.moves;
    able = record {
      fits = subst (λ (o : Option Transcript). Fits o (party t side).stage) (view_before e at) s.fits;
      may = q.may;
      no_fault = q.no_fault c.no_fault;
      no_dial = q.new c.given;
      left = ahead.left;
      ahead = ahead.ahead;
      awake = ahead.awake;
    };
    says = v ∙ q.said;
    after = λ p fits taken awake. record {
      fits = subst (λ (o : Option Transcript). Fits o p.stage) (sym (view_after e at ∙ q.view)) fits;
      opens = λ other past f g. open_after p taken awake past (q.opens past (now_open other past f g));
    };
  } where
    ahead : Ahead side t q.moves
    ahead = is_ahead side t seat.core new.core now i x e.number q r (open_before e (party t side) at s) c

    now_open : (other : Seat) (past : Past) → seat_at y e.node ≡ Some other → past_of other.core.streams e.number ≡ Some past → past_of new.core.streams e.number ≡ Some past
    now_open other past f g = subst (λ (k : Seat). past_of k.core.streams e.number ≡ Some past) (same_seat (seat_at y node) other new (ap (λ k. seat_at y k) (sym at) ∙ f) there) g where
      same_seat : (o : Option Seat) (a b : Seat) → o ≡ Some a → o ≡ Some b → a ≡ b
      same_seat o a b j k = cc

    open_after : (p : Party) → (some_move is_last_move q.moves ≡ false → p.taken ≡ reverse (heard_in q.moves) ++ (party t side).taken)
        → (some_move is_last_move q.moves ≡ false → p.stage ≡ Refused → (party t side).stage ≡ Refused) → (past : Past)
        → KeptOpen seat.core now i x e.number q.moves past ⊎ NewlyOpen seat.core now i e.number q.moves past → OpenStands past p
    open_after p taken awake past (inl k) =
        stays_open k.before past i x e.number (heard_in q.moves) (party t side) p k.past_is k.all_heard (open_before e (party t side) at s k.before k.was_open) (taken k.none_last) (awake k.none_last)
    open_after p taken awake past (inr k) = opens_new past (heard_in q.moves) (party t side) p k.past_is k.none_heard (fresh past k) (taken k.none_last) (awake k.none_last)

-- ---- an end at another node

pub other_part : (w y : WorldState) (side : Side) (t : Talk) (e : StreamEnd) (voiced : List Message) → seat_at y e.node ≡ seat_at w e.node → EndStands w e (party t side) → voiced ≡ [] → Part side t voiced (EndStands y e)
other_part w y side t e voiced same s v = record {
  view = view_seat e.number (seat_at w e.node);
  moves = [];
  able = record { fits = s.fits; may = tt; no_fault = refl; no_dial = refl; left = (party t side).inbox; ahead = refl; awake = λ _. refl };
  says = v;
  after = λ p fits taken awake. record {
    fits = subst (λ (o : Option Seat). Fits (view_seat e.number o) p.stage) (sym same) fits;
    opens = λ seat past f g. by_open p taken awake past (s.opens seat past (sym same ∙ f) g);
  };
} where
  by_open : (p : Party) → (false ≡ false → p.taken ≡ (party t side).taken) → (false ≡ false → p.stage ≡ Refused → (party t side).stage ≡ Refused) → (past : Past) → OpenStands past (party t side) → OpenStands past p
  by_open p taken awake past o = record { taken = taken refl ∙ o.taken; awake = λ f. o.awake (awake refl f) }

-- ---- a side that isn't opened yet

pub no_part : (y : WorldState) (side : Side) (t : Talk) (voiced : List Message) → (party t side).stage ≡ Absent → (party t side).taken ≡ [] → voiced ≡ [] → Part side t voiced (SideStands y None)
no_part y side t voiced absent none v = record {
  view = None;
  moves = [];
  able = record { fits = inl absent; may = tt; no_fault = refl; no_dial = refl; left = (party t side).inbox; ahead = refl; awake = λ _. refl };
  says = v;
  after = λ p fits taken awake. (by_fits p fits (awake refl), taken refl ∙ none);
} where
  absent_refused : (s : Stage) → s ≡ Absent → s ≡ Refused → ⊥
  absent_refused s a b = cc

  by_fits : (p : Party) → (p.stage ≡ Absent) ⊎ (p.stage ≡ Refused) → (p.stage ≡ Refused → (party t side).stage ≡ Refused) → p.stage ≡ Absent
  by_fits p (inl a) awake = a
  by_fits p (inr b) awake = absurd (absent_refused (party t side).stage absent (awake b))
