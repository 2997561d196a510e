-- What a node has queued can be sent in order.
use Rattle.std.proofs.Common.{◌≡◌, ◌<◌, ◌*◌, ◌%◌, inl, inr, refl, sym, ap, ◌∙◌, subst, arith, ℕ, Bool, true, false, cond, List, [], ◌∷◌, map, Option, Some, None}
use Rattle.std.specs.List.{count_by}
use Rattle.grasp_model_node.specs.Queue.{Queued, datagram, dial, send}
use Rattle.grasp_laws_node.specs.Sends.{IsKnown}
use Rattle.grasp_laws_node.proofs.Addressed.Streams.{known_more, follows_rise}
use Rattle.grasp_model_network.specs.Streams.{StreamEnd, StreamState, change_at_end, with_number, with_sent}
use Rattle.grasp_model_network.specs.World.{end_of}
use Rattle.grasp_laws_delivery.specs.Heads.{Head, head_of, heads, has_head_end, HasFar}
use Rattle.grasp_laws_delivery.specs.Kept.{IsArrived, WaitsBehind, HeadWaits, QueueKept}
use Rattle.grasp_laws_delivery.specs.Ready.{Every, IsSent, AreReady}
use Rattle.grasp_laws_delivery.proofs.Counts.{every_map, every_weaker, every_both, every_of, count_same, count_map}
use Rattle.grasp_laws_delivery.proofs.EndMaps.{count_heads, sent_keeps, change_keeps, change_numbers, numbered_head}
use Rattle.grasp_laws_delivery.proofs.Ends.{same_ends, at_far}
use Rattle.grasp_laws_delivery.proofs.HeadCounts.{EndsApart, even_end, odd_end}
use Rattle.grasp_laws_delivery.proofs.HeadMaps.{numbered_ends}
use Rattle.grasp_laws_delivery.proofs.Sending.{datagram_kept, send_kept, IsNextDial, stream_even, next_made, are_next, dial_kept}

-- what the node knows is one stream
abbrev pub AreOne : ℕ → ℕ → List Head → Type 0
AreOne node dialled hs = (number : ℕ) → IsKnown (λ n. IsArrived hs node n) dialled number → count_by (has_head_end (end_of node number)) hs ≡ 1

-- ---- a number changes no end

numbered_apart : (e : StreamEnd) (k : ℕ) (h : Head) → EndsApart h → EndsApart (numbered_head e k h)
numbered_apart e k h a = same (has_head_end e h) where
  same : (b : Bool) → EndsApart (cond b (record h { number = Some k }) h)
  same true = record { even = a.even; odd = a.odd; unopened = λ is. absurd (cc) }
  same false = a

fars_before : (e : StreamEnd) (k : ℕ) (hs : List Head) (f : StreamEnd) → HasFar f (map (numbered_head e k) hs) → HasFar f hs
fars_before e k [] f at = absurd at
fars_before e k (h ∷ hs) f (inl is) = inl (same (has_head_end e h) is) where
  same : (b : Bool) → (cond b (record h { number = Some k }) h).far ≡ Some f → h.far ≡ Some f
  same true i = i
  same false i = i
fars_before e k (h ∷ hs) f (inr at) = inr (fars_before e k hs f at)

every_head : (P : Head → Type 0) → ((h : Head) → P h) → (hs : List Head) → Every P hs
every_head P each [] = tt
every_head P each (h ∷ hs) = (each h, every_head P each hs)

numbered_one : (node dialled : ℕ) (e : StreamEnd) (k : ℕ) (hs : List Head) → AreOne node dialled hs → AreOne node dialled (map (numbered_head e k) hs)
numbered_one node dialled e k hs one number known =
    count_map (has_head_end (end_of node number)) (numbered_head e k) hs
    ∙ (count_same (λ h. has_head_end (end_of node number) (numbered_head e k h)) (has_head_end (end_of node number)) hs
    (every_head (λ h. has_head_end (end_of node number) (numbered_head e k h) ≡ has_head_end (end_of node number) h) (numbered_ends e k (end_of node number)) hs)
    ∙ one number (before known))
  where
    before : IsKnown (λ n. IsArrived (map (numbered_head e k) hs) node n) dialled number → IsKnown (λ n. IsArrived hs node n) dialled number
    before (inl a) = inl (fars_before e k hs (end_of node number) a)
    before (inr n) = inr n

-- ---- a stream that is known was dialled

is_sent : (o : Option ℕ) → (o ≡ None → ⊥) → IsSent o
is_sent None not = absurd (not refl)
is_sent (Some k) not = tt

module _ (node sent stream : ℕ) (queue : List Queued) where
  even_sent : stream % 2 ≡ 0 → stream < 2 * sent → (h : Head) → EndsApart h × HeadWaits node sent queue h → has_head_end (end_of node stream) h ≡ true → IsSent h.number
  even_sent even low h p has = by_number h.number (p.1 here) where
    near : end_of node stream ≡ h.near
    near = same_ends (end_of node stream) h.near (sym (even_end (end_of node stream) even h p.0) ∙ has)

    here : h.near.node ≡ node
    here = ap (λ (x : StreamEnd). x.node) (sym near)

    number : h.near.number ≡ stream
    number = ap (λ (x : StreamEnd). x.number) (sym near)

    by_number : (o : Option ℕ) → WaitsBehind sent queue h.near.number h.to o → IsSent o
    by_number None w = let n = number in absurd (omega (arith, w.0, low, n))
    by_number (Some k) w = tt

  odd_sent : stream % 2 ≡ 1 → (h : Head) → EndsApart h × HeadWaits node sent queue h → has_head_end (end_of node stream) h ≡ true → IsSent h.number
  odd_sent odd h p has =
      let far : h.far ≡ Some (end_of node stream) = at_far (end_of node stream) h.far (sym (odd_end (end_of node stream) odd h p.0) ∙ has) in
      is_sent h.number (λ none. let no : None ≡ Some (end_of node stream) = sym (p.0.unopened none) ∙ far in cc)

-- an end at which a stream was opened has an odd number
arrived_odd : (e : StreamEnd) (hs : List Head) → Every EndsApart hs → HasFar e hs → e.number % 2 ≡ 1
arrived_odd e [] a at = absurd at
arrived_odd e (h ∷ hs) a (inl is) = a.0.odd e is
arrived_odd e (h ∷ hs) a (inr at) = arrived_odd e hs a.1 at

known_sent : (node sent stream : ℕ) (queue : List Queued) (hs : List Head) → Every EndsApart hs → Every (HeadWaits node sent queue) hs → IsKnown (λ n. IsArrived hs node n) sent stream
    → Every (λ h. has_head_end (end_of node stream) h ≡ true → IsSent h.number) hs
known_sent node sent stream queue hs ends waits known = by_known known where
  both : Every (λ h. EndsApart h × HeadWaits node sent queue h) hs
  both = every_both EndsApart (HeadWaits node sent queue) hs ends waits

  by_known : IsKnown (λ n. IsArrived hs node n) sent stream → Every (λ h. has_head_end (end_of node stream) h ≡ true → IsSent h.number) hs
  by_known (inl a) =
      every_weaker (λ h. EndsApart h × HeadWaits node sent queue h) (λ h. has_head_end (end_of node stream) h ≡ true → IsSent h.number)
      (odd_sent node sent stream queue (arrived_odd (end_of node stream) hs ends a)) hs both
  by_known (inr n) =
      every_weaker (λ h. EndsApart h × HeadWaits node sent queue h) (λ h. has_head_end (end_of node stream) h ≡ true → IsSent h.number) (even_sent node sent stream queue n.0 n.1) hs both

-- ---- all that is queued

module _ (node dialled : ℕ) where
  pub queue_ready : (qs : List Queued) (ts : List StreamState) → Every EndsApart (heads ts) → AreOne node dialled (heads ts) → QueueKept (heads ts) node qs dialled → AreReady node qs ts
  queue_ready [] ts ends one k = tt
  queue_ready (datagram link to m ∷ qs) ts ends one k = queue_ready qs ts ends one (datagram_kept (heads ts) node link to m qs dialled k)
  queue_ready (dial stream to ∷ qs) ts ends one k =
      let e : StreamEnd = end_of node stream in (
        record {
          once = count_heads e ts ∙ one stream (inr (stream_even node (heads ts) stream to qs dialled k ends, next_made node (heads ts) stream to qs dialled k ends));
          waits = every_of (λ h. has_head_end e h ≡ true → (h.number ≡ None) × (h.to ≡ to)) head_of ts
              (every_weaker (λ h. has_head_end e h ≡ true → IsNextDial node stream to h) (λ h. has_head_end e h ≡ true → (h.number ≡ None) × (h.to ≡ to)) (λ h n has. ((n has).none, (n has).goes)) (heads ts)
              (are_next node (heads ts) stream to qs dialled k ends));
        },
        λ number.
            let same : map (numbered_head e number) (heads ts) ≡ heads (change_at_end ts e (with_number number)) = sym (change_numbers e number ts) in
            queue_ready qs (change_at_end ts e (with_number number))
            (subst (Every EndsApart) same (every_map EndsApart EndsApart (numbered_head e number) (numbered_apart e number) (heads ts) ends))
            (subst (AreOne node dialled) same (numbered_one node dialled e number (heads ts) one))
            (subst (λ hs. QueueKept hs node qs dialled) same (dial_kept node (heads ts) stream to qs dialled k ends number)),
      )
  queue_ready (send stream m ∷ qs) ts ends one k =
      let e : StreamEnd = end_of node stream in
      let wide : IsKnown (λ n. IsArrived (heads ts) node n) dialled stream =
      known_more (λ n. IsArrived (heads ts) node n) k.sent dialled stream (follows_rise (λ n. IsArrived (heads ts) node n) qs k.sent dialled k.follows.1) k.follows.0 in
      let same : heads ts ≡ heads (change_at_end ts e (with_sent m)) = sym (change_keeps (with_sent m) (sent_keeps m) e ts) in (
        count_heads e ts ∙ one stream wide,
        every_of (λ h. has_head_end e h ≡ true → IsSent h.number) head_of ts (known_sent node k.sent stream (send stream m ∷ qs) (heads ts) ends k.waits k.follows.0),
        queue_ready qs (change_at_end ts e (with_sent m)) (subst (Every EndsApart) same ends) (subst (AreOne node dialled) same one)
            (subst (λ hs. QueueKept hs node qs dialled) same (send_kept (heads ts) node stream m qs dialled k)),
      )
