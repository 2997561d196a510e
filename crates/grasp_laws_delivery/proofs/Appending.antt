-- A network stays in order where a step of a node has queued dials and messages.
use Rattle.std.proofs.Common.{◌≡◌, ◌≢◌, ◌≤◌, ◌+◌, ◌-◌, ◌==◌, refl, sym, ap, ◌∙◌, subst, arith, ℕ, Bool, true, false, List, ◌++◌, length, Some, slice_set, append-nil}
use Rattle.std.specs.List.{count_by}
use Rattle.std.proofs.lemmas.Bool.{eqb-true, eqb-false}
use Rattle.std.proofs.lemmas.List.{length-set}
use Rattle.grasp_model_node.specs.Queue.{Queued}
use Rattle.grasp_laws_node.specs.Dials.{evens_from}
use Rattle.grasp_laws_node.specs.Sends.{Follows, RecordsKnown}
use Rattle.grasp_laws_node.proofs.Addressed.Streams.{follows_append, follows_rise}
use Rattle.grasp_laws_node.proofs.Orders.{evens_append}
use Rattle.grasp_laws_network.proofs.EachNode.{put_is}
use Rattle.grasp_laws_network.proofs.Others.{put_elsewhere}
use Rattle.grasp_model_network.specs.Plans.{IsNode}
use Rattle.grasp_model_network.specs.Setting.{Setting, numbered}
use Rattle.grasp_model_network.specs.World.{Seat}
use Rattle.grasp_laws_delivery.specs.Heads.{Head, has_number, nears_at}
use Rattle.grasp_laws_delivery.specs.Kept.{IsArrived, HeadWaits, QueueKept, NodeKept, GoodHead, AreKept}
use Rattle.grasp_laws_delivery.specs.Ready.{Every}
use Rattle.grasp_laws_delivery.proofs.Counts.{every_append, count_none, count_append}
use Rattle.grasp_laws_delivery.proofs.Making.{made_heads, nears_append, Evens, made_nears, made_wait, made_good, made_elsewhere, elsewhere_waits, made_unnumbered, far_more}
use Rattle.grasp_laws_delivery.proofs.NodeMoves.{follows_wider, records_wider, queued_behind, heads_wait_more, FarsStay, WaitsStay, arrived_stays, node_moved}

-- where one node is put, what is so of it and of each other one is so of all
pub put_nodes : (Q : ℕ → Seat → Type 0) (seats : List Seat) (node : ℕ) (seat : Seat) → 1 ≤ node → Q node seat → ((n : ℕ) (x : Seat) → n ≢ node → numbered seats n ≡ Some x → Q n x)
    → (n : ℕ) (x : Seat) → numbered (slice_set seats (node - 1) seat) n ≡ Some x → Q n x
put_nodes Q seats node seat least own others n x found = by_node (n == node) refl where
  by_node : (b : Bool) → (n == node) ≡ b → Q n x
  by_node true is =
      let same : n ≡ node = eqb-true n node is in
      subst (λ m. Q m x) (sym same) (subst (Q node) (put_is seats node seat x least (subst (λ m. numbered (slice_set seats (node - 1) seat) m ≡ Some x) same found)) own)
  by_node false is = let apart : n ≢ node = eqb-false n node is in others n x apart (sym (put_elsewhere seats node n seat least apart) ∙ found)

module _ (s : Setting) (seats : List Seat) (hs : List Head) (dials : ℕ) (k : AreKept s seats hs dials) (node : ℕ) (seat after : Seat) (more : List Queued) (member : IsNode (length seats) node)
    (here : numbered seats node ≡ Some seat) (queued : after.core.queue ≡ seat.core.queue ++ more)
    (records : RecordsKnown (λ n. IsArrived hs node n) after.core) (follows : Follows (λ n. IsArrived hs node n) seat.core.streams.dialled more after.core.streams.dialled) where
  abbrev made : List Head
  made = made_heads node more

  fars : FarsStay hs (hs ++ made)
  fars e f = far_more e hs made f

  was : NodeKept hs node seat
  was = k.nodes node seat here

  -- ---- the node

  own_nears : nears_at node (hs ++ made) ≡ evens_from 0 after.core.streams.dialled
  own_nears =
      let e : Evens seat.core.streams.dialled after.core.streams.dialled (nears_at node made) = made_nears (λ n. IsArrived hs node n) node more seat.core.streams.dialled after.core.streams.dialled follows in
      let zero_plus : seat.core.streams.dialled ≡ 0 + seat.core.streams.dialled = omega arith in
      nears_append node hs made
      ∙ (ap (λ xs. xs ++ nears_at node made) was.nears
      ∙ (ap (λ ys. evens_from 0 seat.core.streams.dialled ++ ys) (e.same ∙ ap (λ d. evens_from d e.count) zero_plus)
      ∙ (evens_append seat.core.streams.dialled 0 e.count ∙ ap (evens_from 0) (sym e.sum))))

  own_queue : QueueKept (hs ++ made) node after.core.queue after.core.streams.dialled
  own_queue =
      let sent : ℕ = was.queue.sent in
      let low : sent ≤ seat.core.streams.dialled = follows_rise (λ n. IsArrived hs node n) seat.core.queue sent seat.core.streams.dialled was.queue.follows in
      subst (λ q. QueueKept (hs ++ made) node q after.core.streams.dialled) (sym queued) (record {
        sent = sent;
        follows = follows_wider (λ n. IsArrived hs node n) (λ n. IsArrived (hs ++ made) node n) (arrived_stays hs (hs ++ made) fars node) (seat.core.queue ++ more) sent after.core.streams.dialled
            (follows_append (λ n. IsArrived hs node n) seat.core.queue more sent seat.core.streams.dialled after.core.streams.dialled was.queue.follows follows);
        waits = every_append (HeadWaits node sent (seat.core.queue ++ more)) hs made (heads_wait_more node sent seat.core.queue more hs was.queue.waits)
            (made_wait (λ n. IsArrived hs node n) node sent (seat.core.queue ++ more) more seat.core.streams.dialled after.core.streams.dialled low follows
            (λ stream to q. queued_behind stream to seat.core.queue more q));
      })

  own : NodeKept (hs ++ made) node after
  own = record {
    queue = own_queue;
    records = records_wider (λ n. IsArrived hs node n) (λ n. IsArrived (hs ++ made) node n) (arrived_stays hs (hs ++ made) fars node) after.core records;
    nears = own_nears;
  }

  -- ---- the other nodes

  other_waits : (n : ℕ) → n ≢ node → WaitsStay n hs (hs ++ made)
  other_waits n apart sent queue w = every_append (HeadWaits n sent queue) hs made w (elsewhere_waits node n apart sent queue more)

  other_nears : (n : ℕ) → n ≢ node → nears_at n (hs ++ made) ≡ nears_at n hs
  other_nears n apart = nears_append n hs made ∙ (ap (λ xs. nears_at n hs ++ xs) (made_elsewhere node n apart more) ∙ append-nil (nears_at n hs))

  others : (n : ℕ) (x : Seat) → n ≢ node → numbered seats n ≡ Some x → NodeKept (hs ++ made) n x
  others n x apart found = node_moved hs (hs ++ made) fars n x (other_nears n apart) (other_waits n apart) (k.nodes n x found)

  -- ---- all

  counted : (j : ℕ) → 1 ≤ j → j ≤ dials → count_by (has_number j) (hs ++ made) ≡ 1
  counted j least most =
      let a : count_by (has_number j) (hs ++ made) ≡ count_by (has_number j) hs + count_by (has_number j) made = count_append (has_number j) hs made in
      let b : count_by (has_number j) made ≡ 0 = count_none (has_number j) made (made_unnumbered node j more) in
      let c : count_by (has_number j) hs ≡ 1 = k.once j least most in
      omega (arith, a, b, c)

  pub appended : AreKept s (slice_set seats (node - 1) after) (hs ++ made) dials
  appended = record {
    nodes = put_nodes (NodeKept (hs ++ made)) seats node after member.least own others;
    ends = subst (λ nodes. Every (GoodHead s nodes dials) (hs ++ made)) (sym (length-set seats (node - 1) after))
        (every_append (GoodHead s (length seats) dials) hs made k.ends
        (made_good (λ n. IsArrived hs node n) node s (length seats) dials member more seat.core.streams.dialled after.core.streams.dialled follows));
    once = counted;
  }
