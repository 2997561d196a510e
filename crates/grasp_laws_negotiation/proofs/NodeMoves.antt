-- A step of one node keeps how the streams of a network stand as talks.
use Rattle.std.proofs.Common.{◌≡◌, ◌≢◌, ℕ, ◌==◌, Bool, true, false, cond, List, [], ◌∷◌, ◌++◌, ◌⊎◌, inl, inr, Option, Some, None, reverse, slice_get, refl, sym, ap, ◌∙◌, subst, append_assoc}
use Rattle.std.proofs.lemmas.Bool.{eqb-true, eqb-false, true≢false}
use Rattle.std.proofs.lemmas.List.{append-nil, reverse-append}
use Rattle.std.proofs.lemmas.Option.{none-some}
use Rattle.grasp_cbor.proofs.Facts.Options.{same_some}
use Rattle.grasp_model_node.specs.Begin.{begin}
use Rattle.grasp_model_node.specs.Queue.{Queued}
use Rattle.grasp_model_node.specs.BoundedNodes.{IsGiven}
use Rattle.grasp_model_node.specs.Step.{Coming}
use Rattle.grasp_model_node.specs.Streams.{past_of}
use Rattle.grasp_types.proofs.Facts.{append_none}
use Rattle.grasp_types.specs.declared.message.Message.{Message}
use Rattle.grasp_types.specs.declared.message.Message.TheVariants.{ReqNeg, Noop}
use Rattle.grasp_types.specs.declared.traffic.Input.{Input}
use Rattle.grasp_types.specs.declared.traffic.Input.TheVariants as input
use Rattle.grasp_wire.specs.Cutter.{Past}
use Rattle.grasp_laws_node_stories.specs.Stories.{came_on, fault_on, KeptOpen, NewlyOpen, Story, gained, IsClear, OpensIt}
use Rattle.grasp_laws_node_stories.specs.StreamMoves.{StreamMove, Asks, Listens, Refuses, Skips, Passes, Responds, view_on, after_moves, said_in, heard_in, is_dial, is_fault, is_last_move, some_move, MayMoves, sends_on}
use Rattle.grasp_session.specs.Conversation.{Said, spoken}
use Rattle.grasp_session.specs.Laws.{IsOpened}
use Rattle.grasp_session.specs.Messages.{Side, Near, Far, other, is_side}
use Rattle.grasp_session.specs.Talk.{Stage, Absent, Refused, Party, Talk, party, Reached}
use Rattle.grasp_model_network.specs.Streams.{StreamEnd, StreamState, end_at, is_same_end}
use Rattle.grasp_model_network.specs.World.{Seat, WorldState, seat_at, end_of}
use Rattle.grasp_laws_negotiation.proofs.EndSteps.{ComesInOrder, IsNewEnd, here_part, other_part, no_part}
use Rattle.grasp_laws_negotiation.proofs.Standing.{view_seat, OpenStands, EndStands, SideStands, Stands, GoesTo, NoStream, NetworkStands}
use Rattle.grasp_laws_negotiation.proofs.TalkDials.{begins, near_awake}
use Rattle.grasp_laws_negotiation.proofs.TalkRuns.{Part, made, joined, spoken_onto}
use Rattle.grasp_laws_negotiation.proofs.TalkSteps.{Fits, onto, cons_nil}
use Rattle.grasp_laws_negotiation.proofs.Voices.{voices, near_says, near_silent, far_says, far_silent, none_silent}
use Rattle.grasp_laws_negotiation.specs.Negotiations.{IsNegotiation}

-- ---- where a stream comes from

-- the stream's far end, which wasn't there before, is opened by this input of the node
pub record FarOpens (node : ℕ) (i : Input) (before u : StreamState) : Type 0 where
  pub stream : ℕ
  pub none_before : before.far ≡ None
  pub opened : u.far ≡ Some (end_of node stream)
  pub opens : OpensIt i stream

-- a stream that was there before the node's step, with what the step says on it added; the step may have opened its far end
pub record FromOld (w : WorldState) (node : ℕ) (i : Input) (qs : List Queued) (place : ℕ) (u : StreamState) : Type 0 where
  pub before : StreamState
  pub stands : slice_get w.streams place ≡ Some before
  pub near : u.near ≡ before.near
  pub said : u.said ≡ joined (voices node u.near u.far qs) before.said
  pub far : (u.far ≡ before.far) ⊎ FarOpens node i before u

-- a stream that the node's step dialled, with what the step says on it; it has no far end yet
pub record FromNew (w : WorldState) (node : ℕ) (qs : List Queued) (u : StreamState) : Type 0 where
  pub stream : ℕ
  pub near : u.near ≡ end_of node stream
  pub far : u.far ≡ None
  pub said : u.said ≡ onto Near (sends_on stream qs) []
  pub new : NoStream w.streams (end_of node stream)

-- ---- a step of one node

pub record NodeMove (w y : WorldState) : Type 0 where
  pub node : ℕ
  pub seat : Seat
  pub new : Seat
  pub now : ℕ
  pub i : Input
  pub x : Coming
  pub here : seat_at w node ≡ Some seat
  pub there : seat_at y node ≡ Some new
  pub others : (n : ℕ) → n ≢ node → seat_at y n ≡ seat_at w n
  pub story : (stream : ℕ) → Story seat.core now i x new.core stream
  pub clear : (stream : ℕ) → (OpensIt i stream → view_on seat.core stream ≡ None) → IsClear new.core stream
  -- what comes, comes in order
  pub comes : (place : ℕ) (t : StreamState) → slice_get w.streams place ≡ Some t → (side : Side) (e : StreamEnd) → end_at t side ≡ Some e → e.node ≡ node
      → (said : List Message) → said ≡ reverse (spoken (other side) t.said) → ComesInOrder seat.core now i x e.number said
  -- what is opened is new
  pub opened : (stream : ℕ) → OpensIt i stream → NoStream w.streams (end_of node stream)
  pub opened_given : (stream : ℕ) → OpensIt i stream → IsGiven seat.core.streams.dialled stream
  -- what is dialled, and what is open, is a stream
  pub dialled : (stream : ℕ) → some_move is_dial (story stream).moves ≡ true → NoStream y.streams (end_of node stream) → ⊥
  pub recorded : (stream : ℕ) (past : Past) → past_of seat.core.streams stream ≡ Some past → NoStream w.streams (end_of node stream) → ⊥
  -- streams stay, and keep their ends
  pub ends_stay : (e : StreamEnd) → NoStream y.streams e → NoStream w.streams e
  pub stays : (place : ℕ) (t : StreamState) → slice_get w.streams place ≡ Some t → (u : StreamState) × (slice_get y.streams place ≡ Some u) × (u.near ≡ t.near)
  pub apart : (place : ℕ) (u : StreamState) → slice_get y.streams place ≡ Some u → (e : StreamEnd) → u.far ≡ Some e → is_same_end e u.near ≡ false
  pub comes_from : (place : ℕ) (u : StreamState) → slice_get y.streams place ≡ Some u → FromOld w node i (gained seat.core new.core) place u ⊎ FromNew w node (gained seat.core new.core) u

-- ---- what was said before

pub spoken_joined : (side : Side) (zs c : List Said) → reverse (spoken side (joined zs c)) ≡ reverse (spoken side c) ++ spoken side zs
spoken_joined side [] c = sym (append-nil (reverse (spoken side c)))
spoken_joined side (z ∷ zs) c = spoken_joined side zs (z ∷ c) ∙ by_side (is_side side z.side) where
  by_side : (b : Bool) → reverse (cond b (z.message ∷ spoken side c) (spoken side c)) ++ spoken side zs ≡ reverse (spoken side c) ++ cond b (z.message ∷ spoken side zs) (spoken side zs)
  by_side true = ap (λ (l : List Message). l ++ spoken side zs) (reverse-append (z.message ∷ []) (spoken side c)) ∙ append_assoc (reverse (spoken side c)) (z.message ∷ []) (spoken side zs)
  by_side false = refl

opened_before : (xs ys : List Message) → IsOpened (xs ++ ys) → IsOpened xs
opened_before [] ys o = inl refl
opened_before (x ∷ xs) ys (inl e) = absurd (cons_nil x (xs ++ ys) e)
opened_before (x ∷ xs) ys (inr p) = inr (p.0, p.1, xs, ap (λ m. m ∷ xs) (heads x (ReqNeg p.0 p.1) (xs ++ ys) p.2 p.3)) where
  heads : (a b : Message) (k l : List Message) → a ∷ k ≡ b ∷ l → a ≡ b
  heads a b k l e = cc

-- ---- a stream that makes no move

no_moves : (ms : List StreamMove) → MayMoves None ms → some_move is_dial ms ≡ false → heard_in ms ≡ [] → ms ≡ []
no_moves [] may dials heard = refl
no_moves (Asks now timeout session kind o ∷ ms) may dials heard = absurd (true≢false dials)
no_moves (Listens now timeout session o ∷ ms) may dials heard = absurd (cons_nil (ReqNeg session o) (heard_in ms) heard)
no_moves (Refuses session o reason ∷ ms) may dials heard = absurd (cons_nil (ReqNeg session o) (heard_in ms) heard)
no_moves (Skips ∷ ms) may dials heard = absurd (cons_nil Noop (heard_in ms) heard)
no_moves (Passes m said ∷ ms) may dials heard = absurd (cons_nil m (heard_in ms) heard)
no_moves (Responds m ∷ ms) may dials heard = absurd (true≢false dials)
no_moves (_ ∷ ms) may dials heard = absurd may.0

no_fault_opens : (o : Option Past) (i : Input) (x : Coming) (stream : ℕ) → OpensIt i stream → fault_on o i x stream ≡ false
no_fault_opens None i x stream h = refl
no_fault_opens (Some past) (input.Opened s from) x stream h = refl
no_fault_opens (Some past) _ x stream h = absurd h

module _ (w y : WorldState) (m : NodeMove w y) (k : NetworkStands w) where
  abbrev qs : List Queued
  qs = gained m.seat.core m.new.core

  elsewhere : (e : StreamEnd) → (m.node == e.node) ≡ false → seat_at y e.node ≡ seat_at w e.node
  elsewhere e apart = m.others e.node (λ same. eqb-false m.node e.node apart (sym same))

  -- ---- a stream of this number at the node, of which there was none

  none_open : (stream : ℕ) → NoStream w.streams (end_of m.node stream) → past_of (begin m.seat.core m.now).streams stream ≡ None
  none_open stream none = by_past (past_of (begin m.seat.core m.now).streams stream) refl where
    by_past : (o : Option Past) → past_of (begin m.seat.core m.now).streams stream ≡ o → o ≡ None
    by_past None e = refl
    by_past (Some past) e = absurd (m.recorded stream past ((m.story stream).begun past e) none)

  none_heard : (stream : ℕ) → NoStream w.streams (end_of m.node stream) → heard_in (m.story stream).moves ≡ []
  none_heard stream none =
      let q = m.story stream in
      append_none (heard_in q.moves) q.unheard (sym (ap (λ (o : Option Past). came_on o m.i m.x stream) (none_open stream none)) ∙ q.heard)

  none_faulty : (stream : ℕ) → NoStream w.streams (end_of m.node stream) → some_move is_fault (m.story stream).moves ≡ false
  none_faulty stream none = (m.story stream).no_fault (ap (λ (o : Option Past). fault_on o m.i m.x stream) (none_open stream none))

  none_seen : (stream : ℕ) → NoStream w.streams (end_of m.node stream) → view_on m.seat.core stream ≡ None
  none_seen stream none = k.unseen m.node m.seat m.here stream none

  -- ---- a stream that is dialled

  new_stands : (u : StreamState) → FromNew w m.node qs u → IsNegotiation u → Stands y u
  new_stands u f negotiation =
      let stream = f.stream in
      let q = m.story stream in
      let unseen : view_on m.seat.core stream ≡ None = none_seen stream f.new in
      let says_it : sends_on stream qs ≡ said_in None q.moves = q.said ∙ ap (λ v. said_in v q.moves) unseen in
      let first : reverse (spoken Near u.said) ≡ said_in None q.moves = ap (λ (c : List Said). reverse (spoken Near c)) f.said ∙ (spoken_onto Near (sends_on stream qs) [] ∙ says_it) in
      let b = begins q.moves (subst (λ v. MayMoves v q.moves) unseen q.may) (none_faulty stream f.new) (none_heard stream f.new) (subst IsOpened first negotiation) in
      record {
        talk = b.talk;
        reached = b.reached;
        said_is = b.said_is ∙ (ap (λ (l : List Message). onto Near l []) (sym says_it) ∙ sym f.said);
        near = subst (λ e. EndStands y e b.talk.near) (sym f.near) (record {
          fits = subst (λ v. Fits v b.talk.near.stage) (sym (ap (λ o. view_seat stream o) m.there ∙ (q.view ∙ ap (λ v. after_moves v q.moves) unseen))) b.near;
          opens = λ seat past g h. by_opens b.talk b.reached stream f.new past (q.opens past (subst (λ (z : Seat). past_of z.core.streams stream ≡ Some past) (same_some (seat_at y m.node) seat m.new g m.there) h)) b.near_taken;
        });
        far = subst (λ o. SideStands y o b.talk.far) (sym f.far) (b.far, b.far_taken);
      } where
        by_opens : (t : Talk) → Reached t → (stream : ℕ) → NoStream w.streams (end_of m.node stream) → (past : Past)
            → KeptOpen m.seat.core m.now m.i m.x stream (m.story stream).moves past ⊎ NewlyOpen m.seat.core m.now m.i stream (m.story stream).moves past
            → (some_move is_last_move (m.story stream).moves ≡ false → t.near.taken ≡ []) → OpenStands past t.near
        by_opens t r stream none past (inl o) taken = absurd (m.recorded stream o.before o.was_open none)
        by_opens t r stream none past (inr o) taken = record {
          taken = taken o.none_last ∙ ap (λ (z : Past). reverse z.given) (sym o.past_is);
          awake = near_awake t r;
        }

  -- ---- a stream that was there

  -- an end that was there before isn't opened in the step
  old_end : (t : Talk) (p : Party) (place : ℕ) (before : StreamState) → slice_get w.streams place ≡ Some before → (side : Side) (e : StreamEnd) → end_at before side ≡ Some e → e ≡ end_of m.node e.number
      → IsGiven m.seat.core.streams.dialled e.number → (past : Past) → NewlyOpen m.seat.core m.now m.i e.number (m.story e.number).moves past → IsNewEnd p
  old_end t p place before stands side e at is given past new = by_how new.how where
    by_how : (some_move is_dial (m.story e.number).moves ≡ true) ⊎ OpensIt m.i e.number → IsNewEnd p
    by_how (inl dials) = absurd (true≢false (sym dials ∙ (m.story e.number).new given))
    by_how (inr opens) = absurd (m.opened e.number opens place before stands side (at ∙ ap (λ z. Some z) is))

  -- the part of an end that was there
  end_part : (t : Talk) → Reached t → (place : ℕ) (before : StreamState) → slice_get w.streams place ≡ Some before → t.said ≡ before.said → (side : Side) (e : StreamEnd) → end_at before side ≡ Some e
      → EndStands w e (party t side) → (voiced : List Message) → (e.node ≡ m.node → e ≡ end_of m.node e.number → voiced ≡ sends_on e.number qs)
      → ((m.node == e.node) ≡ false → voiced ≡ []) → Part side t voiced (EndStands y e)
  end_part t r place before stands said side e at s voiced own none = by_node (m.node == e.node) refl where
    by_node : (b : Bool) → (m.node == e.node) ≡ b → Part side t voiced (EndStands y e)
    by_node true is =
        let here : e.node ≡ m.node = sym (eqb-true m.node e.node is) in
        let same : e ≡ end_of m.node e.number = ap (λ n. end_of n e.number) here in
        let c = m.comes place before stands side e at here (reverse (spoken (other side) t.said)) (ap (λ (l : List Said). reverse (spoken (other side) l)) said) in
        here_part w y m.node m.seat m.new m.here m.there m.now m.i m.x side t e voiced here (m.story e.number) r s c (old_end t (party t side) place before stands side e at same c.given) (own here same)
    by_node false is = other_part w y side t e voiced (elsewhere e is) s (none is)

  -- the part of an end that is opened in the step
  opened_part : (t : Talk) → Reached t → (stream : ℕ) → OpensIt m.i stream → t.far.stage ≡ Absent → t.far.taken ≡ [] → (voiced : List Message) → voiced ≡ sends_on stream qs
      → Part Far t voiced (EndStands y (end_of m.node stream))
  opened_part t r stream opens absent none voiced own =
      let free : NoStream w.streams (end_of m.node stream) = m.opened stream opens in
      here_part w y m.node m.seat m.new m.here m.there m.now m.i m.x Far t (end_of m.node stream) voiced refl (m.story stream) r
      (record {
        fits = subst (λ v. Fits v t.far.stage) (sym (ap (λ o. view_seat stream o) m.here ∙ none_seen stream free)) (inl absent);
        opens = λ seat past f g. absurd (m.recorded stream past (subst (λ (z : Seat). past_of z.core.streams stream ≡ Some past) (same_some (seat_at w m.node) seat m.seat f m.here) g) free);
      })
      (record {
        given = m.opened_given stream opens;
        no_fault = no_fault_opens (past_of (begin m.seat.core m.now).streams stream) m.i m.x stream opens;
        front = λ past e. absurd (none-some past (sym (none_open stream free) ∙ e));
      })
      (λ past new. record { none_taken = none; awake = λ e. absent_refused t.far.stage absent e })
      own where
        absent_refused : (s : Stage) → s ≡ Absent → s ≡ Refused → ⊥
        absent_refused s a b = cc

  old_goes : (place : ℕ) (u : StreamState) → slice_get y.streams place ≡ Some u → (o : FromOld w m.node m.i qs place u) → (s : Stands w o.before) → GoesTo y u s.talk
  old_goes place u there o s =
      let zs : List Said = voices m.node u.near u.far qs in
      let q = made zs s.talk (EndStands y u.near) (SideStands y u.far) s.reached (near_part s) (far_part s u.far refl) in
      record {
        stands = record {
          talk = q.talk;
          reached = q.reached;
          said_is = q.said_is ∙ (ap (λ (c : List Said). joined zs c) s.said_is ∙ sym o.said);
          near = q.near;
          far = q.far;
        };
        moves = q.moves;
        ran = q.ran;
      } where
        near_part : (s : Stands w o.before) → Part Near s.talk (spoken Near (voices m.node u.near u.far qs)) (EndStands y u.near)
        near_part s =
            end_part s.talk s.reached place o.before o.stands s.said_is Near u.near (ap (λ e. Some e) (sym o.near))
            (subst (λ e. EndStands w e s.talk.near) (sym o.near) s.near) (spoken Near (voices m.node u.near u.far qs))
            (λ here same. ap (λ e. spoken Near (voices m.node e u.far qs)) same ∙ near_says m.node u.far u.near.number qs)
            (λ apart. near_silent m.node u.near u.far qs apart)

        far_was : (s : Stands w o.before) (f : Option StreamEnd) → o.before.far ≡ f → SideStands w f s.talk.far
        far_was s f e = subst (λ z. SideStands w z s.talk.far) e s.far

        far_part : (s : Stands w o.before) (f : Option StreamEnd) → u.far ≡ f → Part Far s.talk (spoken Far (voices m.node u.near f qs)) (SideStands y f)
        far_part s None is = by_far o.far where
          by_far : (u.far ≡ o.before.far) ⊎ FarOpens m.node m.i o.before u → Part Far s.talk (spoken Far (voices m.node u.near None qs)) (SideStands y None)
          by_far (inl same) = let d = far_was s None (sym same ∙ is) in no_part y Far s.talk (spoken Far (voices m.node u.near None qs)) d.0 d.1 (none_silent m.node u.near qs)
          by_far (inr p) = absurd (none-some (end_of m.node p.stream) (sym is ∙ p.opened))
        far_part s (Some e) is = by_far o.far where
          distinct : is_same_end e u.near ≡ false
          distinct = m.apart place u there e is

          own : (e.node ≡ m.node) → e ≡ end_of m.node e.number → spoken Far (voices m.node u.near (Some e) qs) ≡ sends_on e.number qs
          own here same =
              ap (λ z. spoken Far (voices m.node u.near (Some z) qs)) same
              ∙ far_says m.node u.near e.number qs (ap (λ z. is_same_end z u.near) (sym same) ∙ distinct)

          by_far : (u.far ≡ o.before.far) ⊎ FarOpens m.node m.i o.before u → Part Far s.talk (spoken Far (voices m.node u.near (Some e) qs)) (SideStands y (Some e))
          by_far (inl same) =
              end_part s.talk s.reached place o.before o.stands s.said_is Far e (sym same ∙ is) (far_was s (Some e) (sym same ∙ is))
              (spoken Far (voices m.node u.near (Some e) qs)) own (λ apart. far_silent m.node u.near e qs apart)
          by_far (inr p) =
              let same : e ≡ end_of m.node p.stream = same_some u.far e (end_of m.node p.stream) is p.opened in
              let d = far_was s None p.none_before in
              subst (λ z. Part Far s.talk (spoken Far (voices m.node u.near (Some e) qs)) (EndStands y z)) (sym same)
              (opened_part s.talk s.reached p.stream p.opens d.0 d.1 (spoken Far (voices m.node u.near (Some e) qs))
              (own (ap (λ z. z.node) same) (same ∙ ap (λ n. end_of m.node n) (sym (ap (λ z. z.number) same))) ∙ ap (λ n. sends_on n qs) (ap (λ z. z.number) same)))

  old_stands : (place : ℕ) (u : StreamState) → slice_get y.streams place ≡ Some u → FromOld w m.node m.i qs place u → IsNegotiation u → Stands y u
  old_stands place u there o negotiation =
      let zs : List Said = voices m.node u.near u.far qs in
      let was : IsNegotiation o.before = opened_before (reverse (spoken Near o.before.said)) (spoken Near zs)
      (subst IsOpened (ap (λ (c : List Said). reverse (spoken Near c)) o.said ∙ spoken_joined Near zs o.before.said) negotiation) in
      (old_goes place u there o (k.streams place o.before o.stands was)).stands

  -- a stream that was there goes on
  pub move_goes : (place : ℕ) (t u : StreamState) → slice_get w.streams place ≡ Some t → slice_get y.streams place ≡ Some u → (s : Stands w t) → GoesTo y u s.talk
  move_goes place t u was there s = by_origin (m.comes_from place u there) where
    near_same : u.near ≡ t.near
    near_same = let x = m.stays place t was in ap (λ (z : StreamState). z.near) (same_some (slice_get y.streams place) u x.0 there x.1) ∙ x.2

    by_origin : FromOld w m.node m.i qs place u ⊎ FromNew w m.node qs u → GoesTo y u s.talk
    by_origin (inl o) =
        subst (λ z. (x : Stands w z) → GoesTo y u x.talk) (same_some (slice_get w.streams place) o.before t o.stands was) (λ x. old_goes place u there o x) s
    by_origin (inr f) = absurd (f.new place t was Near (ap (λ z. Some z) (sym near_same ∙ f.near)))

  -- ---- the network

  clear_now : (node : ℕ) (seat : Seat) → seat_at y node ≡ Some seat → (stream : ℕ) → IsClear seat.core stream
  clear_now node seat at stream = by_node (node == m.node) refl where
    by_node : (b : Bool) → (node == m.node) ≡ b → IsClear seat.core stream
    by_node true is =
        let same : m.new ≡ seat = same_some (seat_at y m.node) m.new seat m.there (ap (λ n. seat_at y n) (sym (eqb-true node m.node is)) ∙ at) in
        subst (λ (z : Seat). IsClear z.core stream) same (m.clear stream (λ o. none_seen stream (m.opened stream o)))
    by_node false is = k.clear node seat (sym (m.others node (eqb-false node m.node is)) ∙ at) stream

  unseen_now : (node : ℕ) (seat : Seat) → seat_at y node ≡ Some seat → (stream : ℕ) → NoStream y.streams (end_of node stream) → view_on seat.core stream ≡ None
  unseen_now node seat at stream none = by_node (node == m.node) refl where
    own : NoStream y.streams (end_of m.node stream) → view_on m.new.core stream ≡ None
    own free =
        let q = m.story stream in
        let before : NoStream w.streams (end_of m.node stream) = m.ends_stay (end_of m.node stream) free in
        let unseen : view_on m.seat.core stream ≡ None = none_seen stream before in
        let still : q.moves ≡ [] = no_moves q.moves (subst (λ v. MayMoves v q.moves) unseen q.may) (not_dialled (some_move is_dial q.moves) refl) (none_heard stream before) in
        q.view ∙ (ap (λ v. after_moves v q.moves) unseen ∙ ap (λ ms. after_moves None ms) still) where
          not_dialled : (b : Bool) → some_move is_dial (m.story stream).moves ≡ b → b ≡ false
          not_dialled true e = absurd (m.dialled stream e free)
          not_dialled false e = refl

    by_node : (b : Bool) → (node == m.node) ≡ b → view_on seat.core stream ≡ None
    by_node true is =
        let is_node : node ≡ m.node = eqb-true node m.node is in
        let same : m.new ≡ seat = same_some (seat_at y m.node) m.new seat m.there (ap (λ n. seat_at y n) (sym is_node) ∙ at) in
        subst (λ (z : Seat). view_on z.core stream ≡ None) same (own (subst (λ n. NoStream y.streams (end_of n stream)) is_node none))
    by_node false is = k.unseen node seat (sym (m.others node (eqb-false node m.node is)) ∙ at) stream (m.ends_stay (end_of node stream) none)

  pub move_stands : NetworkStands y
  move_stands = record {
    clear = clear_now;
    unseen = unseen_now;
    streams = λ place u at negotiation. by_origin place u at negotiation (m.comes_from place u at);
  } where
    by_origin : (place : ℕ) (u : StreamState) → slice_get y.streams place ≡ Some u → IsNegotiation u → FromOld w m.node m.i qs place u ⊎ FromNew w m.node qs u → Stands y u
    by_origin place u at negotiation (inl o) = old_stands place u at o negotiation
    by_origin place u at negotiation (inr f) = new_stands u f negotiation
