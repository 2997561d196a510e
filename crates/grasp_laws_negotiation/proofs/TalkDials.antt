-- A stream that is dialled in a step: where what is said there first is a request for negotiation, a talk begins with it.
use Rattle.std.proofs.Common.{Some, None, ◌≡◌, ℕ, false, List, [], ◌∷◌, ◌++◌, reverse, inl, inr, refl, sym, ap, ◌∙◌, subst}
use Rattle.std.proofs.lemmas.List.{append-nil}
use Rattle.grasp_types.specs.declared.message.Message.{Message}
use Rattle.grasp_types.specs.declared.message.Message.TheVariants.{Noop, ReqNeg, ReqSyn, End}
use Rattle.grasp_types.specs.declared.message.Verdict.{Verdict}
use Rattle.grasp_types.specs.declared.message.Verdict.TheVariants.{Decline}
use Rattle.grasp_types.specs.declared.objective.Objective.{Objective}
use Rattle.grasp_types.specs.declared.session.Kind.TheVariants.{Negotiation, Synchronization}
use Rattle.grasp_laws_session.proofs.Ends.{unseen}
use Rattle.grasp_laws_session.proofs.Firsts.{first_is_request}
use Rattle.grasp_laws_session.proofs.Reaching.{quiet_reached}
use Rattle.grasp_session.specs.Conversation.{Said, spoken}
use Rattle.grasp_session.specs.Laws.{IsOpened, IsSilent}
use Rattle.grasp_session.specs.Messages.{Near}
use Rattle.grasp_session.specs.Talk.{Stage, Absent, Refused, Party, Talk, quiet, party, Reached}
use Rattle.grasp_session.specs.Transcript.{Transcript, opening}
use Rattle.grasp_laws_node_stories.specs.StreamMoves.{StreamMove, Asks, Listens, Refuses, Says, Hears, Skips, Faults, Marks, Passes, Responds, after_moves, said_in, heard_in, is_dial, is_fault, is_last_move, some_move, IsResponse, MayMoves}
use Rattle.grasp_laws_negotiation.proofs.TalkMoves.{asked}
use Rattle.grasp_laws_negotiation.proofs.TalkRuns.{ran}
use Rattle.grasp_laws_negotiation.proofs.TalkSteps.{Fits, onto, Able, cons_nil}

-- a talk that begins in this step
pub record Begun (ms : List StreamMove) : Type 0 where
  pub talk : Talk
  pub reached : Reached talk
  pub said_is : talk.said ≡ onto Near (said_in None ms) []
  pub near : Fits (after_moves None ms) talk.near.stage
  pub near_taken : some_move is_last_move ms ≡ false → talk.near.taken ≡ []
  pub far : talk.far.stage ≡ Absent
  pub far_taken : talk.far.taken ≡ []

nothing_begins : Begun []
nothing_begins = record { talk = quiet; reached = quiet_reached; said_is = refl; near = inl refl; near_taken = λ _. refl; far = refl; far_taken = refl }

-- near never declines without a session
pub near_awake : (t : Talk) → Reached t → t.near.stage ≡ Refused → ⊥
near_awake t r e = no_decline (subst (λ (x : Stage). IsSilent Near t.said x) e (unseen t r Near)) where
  no_decline : IsSilent Near t.said Refused → ⊥
  no_decline d = by_opened (first_is_request t r) (ap reverse d.2) where
    heads : (a b : Message) (k l : List Message) → a ∷ k ≡ b ∷ l → a ≡ b
    heads a b k l f = cc

    no_end : (n m : ℕ) (v : Verdict) (o : Objective) → End n v ≡ ReqNeg m o → ⊥
    no_end n m v o f = cc

    by_opened : IsOpened (reverse (spoken Near t.said)) → reverse (spoken Near t.said) ≡ End d.0 (Decline d.1) ∷ [] → ⊥
    by_opened (inl n) f = cons_nil (End d.0 (Decline d.1)) [] (sym f ∙ n)
    by_opened (inr p) f = no_end d.0 p.0 (Decline d.1) p.1 (heads (End d.0 (Decline d.1)) (ReqNeg p.0 p.1) [] p.2 (sym f ∙ p.3))

-- a stream with a session isn't dialled
no_dials : (ms : List StreamMove) (v : Transcript) → MayMoves (Some v) ms → some_move is_dial ms ≡ false
no_dials [] v may = refl
no_dials (Says now s ∷ ms) v may = no_dials ms _ may.2
no_dials (Hears now m told ∷ ms) v may = no_dials ms _ may.2
no_dials (Faults told ∷ ms) v may = no_dials ms _ may.2
no_dials (Marks cause ∷ ms) v may = no_dials ms _ may.2
no_dials (_ ∷ ms) v may = absurd may.0

asks_first : (now timeout session : ℕ) (o : Objective) (ms : List StreamMove) → MayMoves (Some (opening Negotiation Near timeout now session o)) ms
    → some_move is_fault ms ≡ false → heard_in ms ≡ [] → Begun (Asks now timeout session Negotiation o ∷ ms)
asks_first now timeout session o ms may fault heard =
    let c = asked quiet now timeout session o quiet_reached refl in
    let able : Able Near c.talk (Some (opening Negotiation Near timeout now session o)) (ms ++ []) = subst (λ (l : List StreamMove). Able Near c.talk (Some (opening Negotiation Near timeout now session o)) l) (sym (append-nil ms)) (record {
      fits = ap (λ (p : Party). p.stage) c.mine_is;
      may = may;
      no_fault = fault;
      no_dial = no_dials ms (opening Negotiation Near timeout now session o) may;
      left = [];
      ahead = ap (λ (p : Party). p.inbox) c.mine_is ∙ (sym heard ∙ sym (append-nil (heard_in ms)));
      awake = λ e. heard;
    }) in
    let q = ran Near ms [] c.talk (Some (opening Negotiation Near timeout now session o)) c.reached able in
    record {
      talk = q.talk;
      reached = q.reached;
      said_is = q.said_is ∙ ap (λ (l : List Said). onto Near (said_in (Some (opening Negotiation Near timeout now session o)) ms) l) c.said_is;
      near = q.able.fits;
      near_taken = λ e. q.taken_is e ∙ (ap (λ (l : List Message). reverse l ++ (party c.talk Near).taken) heard ∙ ap (λ (p : Party). p.taken) c.mine_is);
      far = q.other_stage ∙ c.other_stage;
      far_taken = q.other_taken ∙ c.other_taken;
    }

not_opened : (m : Message) (ms : List Message) → ((session : ℕ) (o : Objective) → m ≡ ReqNeg session o → ⊥) → IsOpened (m ∷ ms) → ⊥
not_opened m ms never (inl e) = cons_nil m ms e
not_opened m ms never (inr p) = never p.0 p.1 (heads m (ReqNeg p.0 p.1) ms p.2 p.3) where
  heads : (a b : Message) (k l : List Message) → a ∷ k ≡ b ∷ l → a ≡ b
  heads a b k l e = cc

no_synch : (n : ℕ) (q : Objective) (session : ℕ) (o : Objective) → ReqSyn n q ≡ ReqNeg session o → ⊥
no_synch n q session o e = cc

no_response : (m : Message) → IsResponse m → (session : ℕ) (o : Objective) → m ≡ ReqNeg session o → ⊥
no_response m p session o e = subst IsResponse e p

pub begins : (ms : List StreamMove) → MayMoves None ms → some_move is_fault ms ≡ false → heard_in ms ≡ [] → IsOpened (said_in None ms) → Begun ms
begins [] may fault heard opened = nothing_begins
begins (Asks now timeout session Negotiation o ∷ ms) may fault heard opened = asks_first now timeout session o ms may.2 fault heard
begins (Asks now timeout session Synchronization o ∷ ms) may fault heard opened = absurd (not_opened (ReqSyn session o) (said_in _ ms) (no_synch session o) opened)
begins (Listens now timeout session o ∷ ms) may fault heard opened = absurd (cons_nil (ReqNeg session o) (heard_in ms) heard)
begins (Refuses session o reason ∷ ms) may fault heard opened = absurd (cons_nil (ReqNeg session o) (heard_in ms) heard)
begins (Skips ∷ ms) may fault heard opened = absurd (cons_nil Noop (heard_in ms) heard)
begins (Passes m said ∷ ms) may fault heard opened = absurd (cons_nil m (heard_in ms) heard)
begins (Responds m ∷ ms) may fault heard opened = absurd (not_opened m (said_in None ms) (no_response m may.0) opened)
begins (_ ∷ ms) may fault heard opened = absurd may.0
