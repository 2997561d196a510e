-- What each change of a stream leaves of this: what a side said is what it sent, and then what is queued.
use Rattle.std.proofs.Common.{◌≡◌, ◌≢◌, refl, sym, ap, ◌∙◌, subst, ℕ, ◌⊎◌, inl, inr, List, [], ◌∷◌, ◌++◌, append_assoc, append-nil, Some}
use Rattle.std.proofs.lemmas.List.{reverse-append}
use Rattle.std.proofs.lemmas.Option.{none-some, same_Some}
use Rattle.grasp_model_node.specs.Queue.{Queued, dial, send}
use Rattle.grasp_session.specs.Conversation.{spoken}
use Rattle.grasp_session.specs.Messages.{Side, Near, Far, other}
use Rattle.grasp_types.specs.declared.address.Locator.{Locator}
use Rattle.grasp_types.specs.declared.message.Message.{Message}
use Rattle.grasp_model_network.specs.Streams.{StreamEnd, StreamState, Direction, fresh_stream, end_at, sent_by, with_direction, with_said, with_sent, at_end}
use Rattle.grasp_model_network.specs.World.{end_of}
use Rattle.grasp_laws_delivery.proofs.Fresh.{queued_append, queued_here, queued_elsewhere}
use Rattle.grasp_laws_delivery.proofs.Sides.{IsDistinct, sides_tell, one_side, at_end_has}
use Rattle.grasp_laws_delivery.specs.Saying.{queued_for, said_by}

-- ---- what is said

pub said_more : (t : StreamState) (side : Side) (m : Message) → said_by (with_said m t side) side ≡ said_by t side ++ m ∷ []
said_more t Near m = reverse-append (m ∷ []) (spoken Near t.said)
said_more t Far m = reverse-append (m ∷ []) (spoken Far t.said)

pub said_beside : (t : StreamState) (side by : Side) (m : Message) → side ≢ by → said_by (with_said m t by) side ≡ said_by t side
said_beside t Near Near m n = absurd (n refl)
said_beside t Near Far m n = refl
said_beside t Far Near m n = refl
said_beside t Far Far m n = absurd (n refl)

pub said_ends : (t : StreamState) (side by : Side) (m : Message) → end_at (with_said m t by) side ≡ end_at t side
said_ends t Near by m = refl
said_ends t Far by m = refl

pub said_sends : (t : StreamState) (side by : Side) (m : Message) → sent_by (with_said m t by) side ≡ sent_by t side
said_sends t Near by m = refl
said_sends t Far by m = refl

-- ---- what is sent

pub direction_ends : (t : StreamState) (side by : Side) (d : Direction) → end_at (with_direction t by d) side ≡ end_at t side
direction_ends t Near Near d = refl
direction_ends t Near Far d = refl
direction_ends t Far Near d = refl
direction_ends t Far Far d = refl

pub direction_says : (t : StreamState) (side by : Side) (d : Direction) → said_by (with_direction t by d) side ≡ said_by t side
direction_says t side Near d = refl
direction_says t side Far d = refl

pub direction_is : (t : StreamState) (side : Side) (d : Direction) → sent_by (with_direction t side d) side ≡ d
direction_is t Near d = refl
direction_is t Far d = refl

pub direction_beside : (t : StreamState) (side by : Side) (d : Direction) → side ≢ by → sent_by (with_direction t by d) side ≡ sent_by t side
direction_beside t Near Near d n = absurd (n refl)
direction_beside t Near Far d n = refl
direction_beside t Far Near d n = refl
direction_beside t Far Far d n = absurd (n refl)

-- ---- what a side of a node said

-- what a side of this node said is what it sent, and then what of these outputs is for the stream
abbrev pub IsSaidWith : ℕ → List Queued → StreamState → Type 0
IsSaidWith node queue t = (side : Side) (stream : ℕ) → end_at t side ≡ Some (end_of node stream) → said_by t side ≡ (sent_by t side).sent ++ queued_for stream queue

pub record Speaks (node : ℕ) (queue : List Queued) (t : StreamState) : Type 0 where
  pub distinct : IsDistinct t
  pub said : IsSaidWith node queue t

-- a stream of which a side is the same
same_said : (t u : StreamState) (side : Side) (queue : List Message) → said_by u side ≡ said_by t side → sent_by u side ≡ sent_by t side → said_by t side ≡ (sent_by t side).sent ++ queue
    → said_by u side ≡ (sent_by u side).sent ++ queue
same_said t u side queue a b e = a ∙ (e ∙ ap (λ (d : Direction). d.sent ++ queue) (sym b))

-- a stream of which both sides are the same
pub speaks_same : (node : ℕ) (queue : List Queued) (t u : StreamState) → u.near ≡ t.near → ((side : Side) → end_at u side ≡ end_at t side) → ((side : Side) → said_by u side ≡ said_by t side)
    → ((side : Side) → (sent_by u side).sent ≡ (sent_by t side).sent) → Speaks node queue t → Speaks node queue u
speaks_same node queue t u near ends says sends k = record {
  distinct = λ e f g. k.distinct e (sym (ends Far) ∙ f) (sym near ∙ g);
  said = λ side stream at. says side ∙ (k.said side stream (sym (ends side) ∙ at) ∙ ap (λ ms. ms ++ queued_for stream queue) (sym (sends side)));
}

-- ---- a step

-- two streams of a node
pub same_number : (node a b : ℕ) → end_of node a ≡ end_of node b → a ≡ b
same_number node a b e = ap (λ (x : StreamEnd). x.number) e

-- an output that is for no stream
pub nothing_more : (node : ℕ) (queue : List Queued) (q : Queued) (t : StreamState) → ((stream : ℕ) → queued_for stream (q ∷ []) ≡ []) → Speaks node queue t → Speaks node (queue ++ q ∷ []) t
nothing_more node queue q t none k = record {
  distinct = k.distinct;
  said = λ side stream at.
      k.said side stream at
      ∙ ap (λ ms. (sent_by t side).sent ++ ms) (sym (queued_append stream queue (q ∷ []) ∙ (ap (λ ms. queued_for stream queue ++ ms) (none stream) ∙ append-nil (queued_for stream queue))));
}

-- a message is queued, and said by the side whose stream it is for
pub message_said : (node : ℕ) (queue : List Queued) (stream : ℕ) (m : Message) (t : StreamState) → Speaks node queue t
    → Speaks node (queue ++ send stream m ∷ []) (at_end (end_of node stream) (with_said m) t)
message_said node queue stream m t k = at_end_has (Speaks node (queue ++ send stream m ∷ [])) (end_of node stream) (with_said m) t unsaid said_here where
  unsaid : ((side : Side) → end_at t side ≢ Some (end_of node stream)) → Speaks node (queue ++ send stream m ∷ []) t
  unsaid none = record {
    distinct = k.distinct;
    said = λ side other at.
        k.said side other at
        ∙ ap (λ ms. (sent_by t side).sent ++ ms)
        (sym (queued_append other queue (send stream m ∷ [])
        ∙ (ap (λ ms. queued_for other queue ++ ms) (queued_elsewhere other stream m (λ e. none side (at ∙ ap (λ n. Some (end_of node n)) (sym e)))) ∙ append-nil (queued_for other queue))));
  }

  said_here : (by : Side) → end_at t by ≡ Some (end_of node stream) → Speaks node (queue ++ send stream m ∷ []) (with_said m t by)
  said_here by by_at = record {
    distinct = λ e f g. k.distinct e (sym (said_ends t Far by m) ∙ f) g;
    said = λ side other at. by_side side other (sym (said_ends t side by m) ∙ at) (sides_tell side by);
  } where
    by_side : (side : Side) (other : ℕ) → end_at t side ≡ Some (end_of node other) → (side ≡ by) ⊎ (side ≢ by)
        → said_by (with_said m t by) side ≡ (sent_by (with_said m t by) side).sent ++ queued_for other (queue ++ send stream m ∷ [])
    by_side side other at (inl same) = subst (λ (x : Side). said_by (with_said m t x) side ≡ (sent_by (with_said m t x) side).sent ++ queued_for other (queue ++ send stream m ∷ [])) same
        (said_more t side m
        ∙ (ap (λ ms. ms ++ m ∷ []) (k.said side other at)
        ∙ (append_assoc (sent_by t side).sent (queued_for other queue) (m ∷ [])
        ∙ (ap (λ ms. (sent_by t side).sent ++ ms) (sym (queued_append other queue (send stream m ∷ []) ∙ ap (λ ms. queued_for other queue ++ ms) (here (same_number node other stream (same_Some (end_of node other) (end_of node stream) (sym at ∙ (ap (end_at t) same ∙ by_at)))))))
        ∙ ap (λ (d : Direction). d.sent ++ queued_for other (queue ++ send stream m ∷ [])) (sym (said_sends t side side m))))))
      where
        here : other ≡ stream → queued_for other (send stream m ∷ []) ≡ m ∷ []
        here e = subst (λ n. queued_for other (send n m ∷ []) ≡ m ∷ []) e (queued_here other m)
    by_side side other at (inr differs) =
        said_beside t side by m differs
        ∙ (k.said side other at
        ∙ (ap (λ ms. (sent_by t side).sent ++ ms)
        (sym (queued_append other queue (send stream m ∷ [])
        ∙ (ap (λ ms. queued_for other queue ++ ms) (queued_elsewhere other stream m (λ e. differs (one_side t (end_of node stream) side by k.distinct (at ∙ ap (λ n. Some (end_of node n)) (sym e)) by_at))) ∙ append-nil (queued_for other queue))))
        ∙ ap (λ (d : Direction). d.sent ++ queued_for other (queue ++ send stream m ∷ [])) (sym (said_sends t side by m))))

-- a stream that is dialled, for which nothing is queued yet
pub dialled_speaks : (node : ℕ) (queue : List Queued) (stream : ℕ) (to : Locator) → queued_for stream queue ≡ []
    → Speaks node (queue ++ dial stream to ∷ []) (fresh_stream (end_of node stream) to)
dialled_speaks node queue stream to none = record { distinct = λ e f. absurd (none-some e f); said = by_side } where
  by_side : IsSaidWith node (queue ++ dial stream to ∷ []) (fresh_stream (end_of node stream) to)
  by_side Near other at =
      sym (queued_append other queue (dial stream to ∷ []) ∙ (append-nil (queued_for other queue)
      ∙ subst (λ n. queued_for n queue ≡ []) (same_number node stream other (same_Some (end_of node stream) (end_of node other) at)) none))
  by_side Far other at = absurd (none-some (end_of node other) at)

-- a stream that another node dials
pub dialled_elsewhere : (node by : ℕ) (queue : List Queued) (stream : ℕ) (to : Locator) → node ≢ by → Speaks node queue (fresh_stream (end_of by stream) to)
dialled_elsewhere node by queue stream to n = record { distinct = λ e f. absurd (none-some e f); said = by_side } where
  by_side : IsSaidWith node queue (fresh_stream (end_of by stream) to)
  by_side Near other at = absurd (n (sym (ap (λ (e : StreamEnd). e.node) (same_Some (end_of by stream) (end_of node other) at))))
  by_side Far other at = absurd (none-some (end_of node other) at)

-- a message that another node queues
pub said_elsewhere : (node by : ℕ) (queue : List Queued) (stream : ℕ) (m : Message) (t : StreamState) → node ≢ by → Speaks node queue t
    → Speaks node queue (at_end (end_of by stream) (with_said m) t)
said_elsewhere node by queue stream m t n k = at_end_has (Speaks node queue) (end_of by stream) (with_said m) t (λ none. k) there where
  there : (x : Side) → end_at t x ≡ Some (end_of by stream) → Speaks node queue (with_said m t x)
  there x x_at = record {
    distinct = λ e f g. k.distinct e (sym (said_ends t Far x m) ∙ f) g;
    said = λ side other at. by_side side other (sym (said_ends t side x m) ∙ at) (sides_tell side x);
  } where
    by_side : (side : Side) (other : ℕ) → end_at t side ≡ Some (end_of node other) → (side ≡ x) ⊎ (side ≢ x) → said_by (with_said m t x) side ≡ (sent_by (with_said m t x) side).sent ++ queued_for other queue
    by_side side other at (inl same) =
        absurd (n (ap (λ (e : StreamEnd). e.node) (same_Some (end_of node other) (end_of by stream) (sym at ∙ (ap (end_at t) same ∙ x_at)))))
    by_side side other at (inr differs) = same_said t (with_said m t x) side (queued_for other queue) (said_beside t side x m differs) (said_sends t side x m) (k.said side other at)

-- ---- a drain

-- the first of what is queued is sent
pub message_sent : (node : ℕ) (queue : List Queued) (stream : ℕ) (m : Message) (t : StreamState) → Speaks node (send stream m ∷ queue) t
    → Speaks node queue (at_end (end_of node stream) (with_sent m) t)
message_sent node queue stream m t k = at_end_has (Speaks node queue) (end_of node stream) (with_sent m) t unsent sent_here where
  unsent : ((side : Side) → end_at t side ≢ Some (end_of node stream)) → Speaks node queue t
  unsent none = record {
    distinct = k.distinct;
    said = λ side other at.
        k.said side other at
        ∙ ap (λ ms. (sent_by t side).sent ++ ms)
        (queued_append other (send stream m ∷ []) queue ∙ ap (λ ms. ms ++ queued_for other queue) (queued_elsewhere other stream m (λ e. none side (at ∙ ap (λ n. Some (end_of node n)) (sym e)))));
  }

  sent_here : (by : Side) → end_at t by ≡ Some (end_of node stream) → Speaks node queue (with_sent m t by)
  sent_here by by_at = record {
    distinct = λ e f g. k.distinct e (sym (direction_ends t Far by more) ∙ f) (sym (near_is by) ∙ g);
    said = λ side other at. by_side side other (sym (direction_ends t side by more) ∙ at) (sides_tell side by);
  } where
    more : Direction
    more = record (sent_by t by) { sent = (sent_by t by).sent ++ m ∷ [] }

    near_is : (x : Side) → (with_direction t x more).near ≡ t.near
    near_is Near = refl
    near_is Far = refl

    by_side : (side : Side) (other : ℕ) → end_at t side ≡ Some (end_of node other) → (side ≡ by) ⊎ (side ≢ by)
        → said_by (with_sent m t by) side ≡ (sent_by (with_sent m t by) side).sent ++ queued_for other queue
    by_side side other at (inl same) = subst (λ (x : Side). said_by (with_sent m t x) side ≡ (sent_by (with_sent m t x) side).sent ++ queued_for other queue) same
        (direction_says t side side own
        ∙ (k.said side other at
        ∙ (ap (λ ms. (sent_by t side).sent ++ ms) (queued_append other (send stream m ∷ []) queue ∙ ap (λ ms. ms ++ queued_for other queue) (here (same_number node other stream (same_Some (end_of node other) (end_of node stream) (sym at ∙ (ap (end_at t) same ∙ by_at))))))
        ∙ (sym (append_assoc (sent_by t side).sent (m ∷ []) (queued_for other queue))
        ∙ ap (λ (d : Direction). d.sent ++ queued_for other queue) (sym (direction_is t side own))))))
      where
        own : Direction
        own = record (sent_by t side) { sent = (sent_by t side).sent ++ m ∷ [] }

        here : other ≡ stream → queued_for other (send stream m ∷ []) ≡ m ∷ []
        here e = subst (λ n. queued_for other (send n m ∷ []) ≡ m ∷ []) e (queued_here other m)
    by_side side other at (inr differs) =
        direction_says t side by more
        ∙ (k.said side other at
        ∙ (ap (λ ms. (sent_by t side).sent ++ ms)
        (queued_append other (send stream m ∷ []) queue ∙ ap (λ ms. ms ++ queued_for other queue) (queued_elsewhere other stream m (λ e. differs (one_side t (end_of node stream) side by k.distinct (at ∙ ap (λ n. Some (end_of node n)) (sym e)) by_at))))
        ∙ ap (λ (d : Direction). d.sent ++ queued_for other queue) (sym (direction_beside t side by more differs))))

-- a message that another node sends
pub sent_elsewhere : (node by : ℕ) (queue : List Queued) (stream : ℕ) (m : Message) (t : StreamState) → node ≢ by → Speaks node queue t
    → Speaks node queue (at_end (end_of by stream) (with_sent m) t)
sent_elsewhere node by queue stream m t n k = at_end_has (Speaks node queue) (end_of by stream) (with_sent m) t (λ none. k) there where
  there : (x : Side) → end_at t x ≡ Some (end_of by stream) → Speaks node queue (with_sent m t x)
  there x x_at = record {
    distinct = λ e f g. k.distinct e (sym (direction_ends t Far x more) ∙ f) (sym (near_is x) ∙ g);
    said = λ side other at. by_side side other (sym (direction_ends t side x more) ∙ at) (sides_tell side x);
  } where
    more : Direction
    more = record (sent_by t x) { sent = (sent_by t x).sent ++ m ∷ [] }

    near_is : (y : Side) → (with_direction t y more).near ≡ t.near
    near_is Near = refl
    near_is Far = refl

    by_side : (side : Side) (other : ℕ) → end_at t side ≡ Some (end_of node other) → (side ≡ x) ⊎ (side ≢ x) → said_by (with_sent m t x) side ≡ (sent_by (with_sent m t x) side).sent ++ queued_for other queue
    by_side side other at (inl same) =
        absurd (n (ap (λ (e : StreamEnd). e.node) (same_Some (end_of node other) (end_of by stream) (sym at ∙ (ap (end_at t) same ∙ x_at)))))
    by_side side other at (inr differs) = same_said t (with_sent m t x) side (queued_for other queue) (direction_says t side x more) (direction_beside t side x more differs) (k.said side other at)

-- ---- what changes nothing of it

-- a direction of which as much was sent
pub direction_speaks : (node : ℕ) (queue : List Queued) (t : StreamState) (by : Side) (d : Direction) → d.sent ≡ (sent_by t by).sent → Speaks node queue t → Speaks node queue (with_direction t by d)
direction_speaks node queue t by d same k =
    speaks_same node queue t (with_direction t by d) (near_is by) (λ side. direction_ends t side by d) (λ side. direction_says t side by d) (λ side. by_side side (sides_tell side by)) k where
      near_is : (y : Side) → (with_direction t y d).near ≡ t.near
      near_is Near = refl
      near_is Far = refl

      by_side : (side : Side) → (side ≡ by) ⊎ (side ≢ by) → (sent_by (with_direction t by d) side).sent ≡ (sent_by t side).sent
      by_side side (inl e) = subst (λ (x : Side). (sent_by (with_direction t by d) x).sent ≡ (sent_by t x).sent) (sym e) (ap (λ (x : Direction). x.sent) (direction_is t by d) ∙ same)
      by_side side (inr n) = ap (λ (x : Direction). x.sent) (direction_beside t side by d n)
