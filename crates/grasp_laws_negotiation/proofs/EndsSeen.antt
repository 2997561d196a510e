-- What the session on an end of a stream is, at its node, and that each step of the node keeps it.
use Rattle.std.proofs.Common.{◌≡◌, refl, sym, ap, ◌∙◌, subst, ℕ, ◌==◌, ◌⊎◌, inl, inr, Bool, true, false, cond, List, [], ◌++◌, Option, None, Some, append_assoc}
use Rattle.std.proofs.lemmas.Bool.{true≢false}
use Rattle.std.proofs.lemmas.List.{append-nil}
use Rattle.std.proofs.lemmas.Option.{none-some}
use Rattle.grasp_model_node.specs.Begin.{begin}
use Rattle.grasp_model_node.specs.Bytes.{past_after}
use Rattle.grasp_model_node.specs.Node.{NodeState}
use Rattle.grasp_model_node.specs.Step.{Coming}
use Rattle.grasp_model_node.specs.Streams.{past_of}
use Rattle.grasp_session.specs.Messages.{Near, Far}
use Rattle.grasp_session.specs.Transcript.{Transcript}
use Rattle.grasp_types.proofs.Facts.{append_none}
use Rattle.grasp_types.specs.declared.message.Message.{Message}
use Rattle.grasp_types.specs.declared.session.Kind.TheVariants.{Negotiation}
use Rattle.grasp_types.specs.declared.traffic.Input.{Input}
use Rattle.grasp_types.specs.declared.traffic.Input.TheVariants as input
use Rattle.grasp_wire.specs.Cutter.{Past}
use Rattle.grasp_laws_network.specs.Keeping.{IsLonger}
use Rattle.grasp_laws_negotiation.proofs.EndSteps.{ComesInOrder}
use Rattle.grasp_laws_node_stories.proofs.Telling.{no_moves}
use Rattle.grasp_laws_node_stories.specs.Stories.{came_by, came_on, past_with, KeptOpen, NewlyOpen, Story, OpensIt}
use Rattle.grasp_laws_node_stories.specs.StreamMoves.{view_on, after_moves, said_in, heard_in, is_dial, is_last_move, some_move, MayMoves}
use Rattle.grasp_laws_negotiation.proofs.FirstMoves.{Asked, FirstSpeaks, asked_more, Goes, goes, Dials, dials, Listening, listening, some_same}

-- ---- how the ends of a stream stand, on which near said this

-- the end that dialled: its session has near's role and the kind of the first request, and where the end is open there is one
pub record NearAt (n : NodeState) (stream : ℕ) (said : List Message) : Type 0 where
  pub asked : (v : Transcript) → view_on n stream ≡ Some v → (v.role ≡ Near) × Asked v.kind said
  pub seen : (past : Past) → past_of n.streams stream ≡ Some past → (v : Transcript) × (view_on n stream ≡ Some v)

-- the end that was dialled: its session has far's role, and the first request is for negotiation; before it has one it was given nothing
pub record FarAt (n : NodeState) (stream : ℕ) (said : List Message) : Type 0 where
  pub asked : (v : Transcript) → view_on n stream ≡ Some v → (v.role ≡ Far) × Asked Negotiation said
  pub unheard : (past : Past) → past_of n.streams stream ≡ Some past → view_on n stream ≡ None → past.given ≡ []

pub near_more : (n : NodeState) (stream : ℕ) (said more : List Message) → NearAt n stream said → NearAt n stream (said ++ more)
near_more n stream said more a = record { asked = λ v e. let k = a.asked v e in (k.0, asked_more v.kind said more k.1); seen = a.seen }

pub far_more : (n : NodeState) (stream : ℕ) (said more : List Message) → FarAt n stream said → FarAt n stream (said ++ more)
far_more n stream said more a = record { asked = λ v e. let k = a.asked v e in (k.0, asked_more Negotiation said more k.1); unheard = a.unheard }

-- ---- a step

given_still : (past : Past) (i : Input) (x : Coming) (stream : ℕ) → came_by i x stream ≡ [] → (past_with past i x stream).given ≡ past.given
given_still past (input.Bytes s bytes) x stream e = by_test (s == stream) e where
  by_test : (b : Bool) → cond b x.added.messages [] ≡ [] → (cond b (past_after past bytes x.added) past).given ≡ past.given
  by_test true f = ap (λ (l : List Message). past.given ++ l) f ∙ append-nil past.given
  by_test false f = refl
given_still past _ x stream e = refl

module _ (n after : NodeState) (now : ℕ) (i : Input) (x : Coming) (stream : ℕ) (q : Story n now i x after stream) where
  closed_hears : past_of (begin n now).streams stream ≡ None → heard_in q.moves ≡ []
  closed_hears e = append_none (heard_in q.moves) q.unheard (sym (ap (λ (o : Option Past). came_on o i x stream) e) ∙ q.heard)

  may_none : view_on n stream ≡ None → MayMoves None q.moves
  may_none e = subst (λ v. MayMoves v q.moves) e q.may

  after_none : view_on n stream ≡ None → view_on after stream ≡ after_moves None q.moves
  after_none e = q.view ∙ ap (λ v. after_moves v q.moves) e

  -- a session that was there
  there_still : (v : Transcript) → view_on n stream ≡ Some v → Goes v q.moves
  there_still v e = goes q.moves v (subst (λ o. MayMoves o q.moves) e q.may)

  after_some : (v : Transcript) → (e : view_on n stream ≡ Some v) → view_on after stream ≡ Some (there_still v e).view
  after_some v e = q.view ∙ (ap (λ o. after_moves o q.moves) e ∙ (there_still v e).is)

  -- the end that dialled
  near_silent_moves : (said : List Message) → some_move is_dial q.moves ≡ false → NearAt n stream said → view_on n stream ≡ None → q.moves ≡ []
  near_silent_moves said no_dial a none = no_moves q.moves (may_none none) (closed_hears (by_past (past_of (begin n now).streams stream) refl)) no_dial where
    by_past : (o : Option Past) → past_of (begin n now).streams stream ≡ o → o ≡ None
    by_past None e = refl
    by_past (Some past) e = let s = a.seen past (q.begun past e) in absurd (none-some s.0 (sym none ∙ s.1))

  pub near_quiet : (said : List Message) → some_move is_dial q.moves ≡ false → NearAt n stream said → view_on n stream ≡ None → said_in (view_on n stream) q.moves ≡ []
  near_quiet said no_dial a none = ap (said_in (view_on n stream)) (near_silent_moves said no_dial a none)

  pub near_step : (said : List Message) → some_move is_dial q.moves ≡ false → (OpensIt i stream → ⊥) → NearAt n stream said → NearAt after stream said
  near_step said no_dial unopened a = by_view (view_on n stream) refl where
    by_view : (o : Option Transcript) → view_on n stream ≡ o → NearAt after stream said
    by_view (Some v) e =
        let g : Goes v q.moves = there_still v e in
        let k = a.asked v e in
        record {
          asked = λ u f. let same : g.view ≡ u = some_same g.view u (sym (after_some v e) ∙ f) in
              (ap (λ (t : Transcript). t.role) (sym same) ∙ (g.role ∙ k.0), subst (λ kind. Asked kind said) (sym g.kind ∙ ap (λ (t : Transcript). t.kind) same) k.1);
          seen = λ past f. (g.view, after_some v e);
        }
    by_view None e = record {
      asked = λ u f. absurd (none-some u (sym none_then ∙ f));
      seen = λ past f. absurd (by_open past (q.opens past f));
    } where
      none_then : view_on after stream ≡ None
      none_then = after_none e ∙ ap (after_moves None) (near_silent_moves said no_dial a e)

      by_how : (some_move is_dial q.moves ≡ true) ⊎ OpensIt i stream → ⊥
      by_how (inl d) = true≢false (sym d ∙ no_dial)
      by_how (inr o) = unopened o

      by_open : (past : Past) → KeptOpen n now i x stream q.moves past ⊎ NewlyOpen n now i stream q.moves past → ⊥
      by_open past (inl o) = let s = a.seen o.before o.was_open in none-some s.0 (sym e ∙ s.1)
      by_open past (inr o) = by_how o.how

  -- the end that was dialled
  far_front : (said : List Message) → ComesInOrder n now i x stream said → FarAt n stream said → view_on n stream ≡ None → IsLonger (heard_in q.moves) said
  far_front said c a none = by_past (past_of (begin n now).streams stream) refl where
    by_past : (o : Option Past) → past_of (begin n now).streams stream ≡ o → IsLonger (heard_in q.moves) said
    by_past None e = (said, ap (λ (l : List Message). l ++ said) (sym (closed_hears e)))
    by_past (Some past) e =
        let f = c.front past e in
        let given : past.given ≡ [] = a.unheard past (q.begun past e) none in
        let came : came_by i x stream ≡ heard_in q.moves ++ q.unheard = sym (ap (λ (o : Option Past). came_on o i x stream) e) ∙ q.heard in
        (q.unheard ++ f.0, f.1 ∙ (ap (λ (l : List Message). (l ++ came_by i x stream) ++ f.0) given ∙ (ap (λ (l : List Message). l ++ f.0) came ∙ append_assoc (heard_in q.moves) q.unheard f.0)))

  pub far_step : (said : List Message) → FirstSpeaks said → some_move is_dial q.moves ≡ false → ComesInOrder n now i x stream said → FarAt n stream said → FarAt after stream said
  far_step said speaks no_dial c a = by_view (view_on n stream) refl where
    by_view : (o : Option Transcript) → view_on n stream ≡ o → FarAt after stream said
    by_view (Some v) e =
        let g : Goes v q.moves = there_still v e in
        let k = a.asked v e in
        record {
          asked = λ u f. let same : g.view ≡ u = some_same g.view u (sym (after_some v e) ∙ f) in (ap (λ (t : Transcript). t.role) (sym same) ∙ (g.role ∙ k.0), k.1);
          unheard = λ past f none. absurd (none-some g.view (sym none ∙ after_some v e));
        }
    by_view None e = record {
      asked = λ u f. h.asked u (sym (after_none e) ∙ f);
      unheard = λ past f none. by_open past (sym (after_none e) ∙ none) (q.opens past f);
    } where
      h : Listening q.moves said
      h = listening q.moves said (may_none e) no_dial speaks (far_front said c a e)

      by_open : (past : Past) → after_moves None q.moves ≡ None → KeptOpen n now i x stream q.moves past ⊎ NewlyOpen n now i stream q.moves past → past.given ≡ []
      by_open past none (inl o) =
          ap (λ (p : Past). p.given) o.past_is
          ∙ (given_still o.before i x stream (sym o.all_heard ∙ h.unheard o.none_last none) ∙ a.unheard o.before o.was_open e)
      by_open past none (inr o) = ap (λ (p : Past). p.given) o.past_is

  -- ---- a stream that was none before

  module _ (none : view_on n stream ≡ None) (closed : (past : Past) → past_of n.streams stream ≡ Some past → ⊥) where
    new_closed : past_of (begin n now).streams stream ≡ None
    new_closed = by_past (past_of (begin n now).streams stream) refl where
      by_past : (o : Option Past) → past_of (begin n now).streams stream ≡ o → o ≡ None
      by_past None e = refl
      by_past (Some past) e = absurd (closed past (q.begun past e))

    d : Dials q.moves
    d = dials q.moves (may_none none) (closed_hears new_closed)

    pub near_new : (OpensIt i stream → ⊥) → NearAt after stream (said_in None q.moves) × FirstSpeaks (said_in None q.moves)
    near_new unopened = (
      record {
        asked = λ v e. d.asked v (sym (after_none none) ∙ e);
        seen = λ past e. by_open past (q.opens past e);
      },
      d.speaks,
    ) where
      by_how : some_move is_last_move q.moves ≡ false → (some_move is_dial q.moves ≡ true) ⊎ OpensIt i stream → (v : Transcript) × (view_on after stream ≡ Some v)
      by_how last (inl dial) = let s = d.seen last dial in (s.0, after_none none ∙ s.1)
      by_how last (inr o) = absurd (unopened o)

      by_open : (past : Past) → KeptOpen n now i x stream q.moves past ⊎ NewlyOpen n now i stream q.moves past → (v : Transcript) × (view_on after stream ≡ Some v)
      by_open past (inl o) = absurd (closed o.before o.was_open)
      by_open past (inr o) = by_how o.none_last o.how

    pub far_new : (said : List Message) → some_move is_dial q.moves ≡ false → FarAt after stream said
    far_new said no_dial = record {
      asked = λ v e. absurd (none-some v (sym none_then ∙ e));
      unheard = λ past e f. by_open past (q.opens past e);
    } where
      none_then : view_on after stream ≡ None
      none_then = after_none none ∙ ap (after_moves None) (no_moves q.moves (may_none none) (closed_hears new_closed) no_dial)

      by_open : (past : Past) → KeptOpen n now i x stream q.moves past ⊎ NewlyOpen n now i stream q.moves past → past.given ≡ []
      by_open past (inl o) = absurd (closed o.before o.was_open)
      by_open past (inr o) = ap (λ (p : Past). p.given) o.past_is
