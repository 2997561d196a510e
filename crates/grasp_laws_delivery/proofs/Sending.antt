-- A network stays in order where a node's outputs are sent, one after the other.
use Rattle.std.proofs.Common.{◌≡◌, ◌≢◌, ◌≤◌, ◌<◌, ◌+◌, ◌*◌, ◌%◌, ◌==◌, inl, inr, refl, sym, ap, ◌∙◌, subst, arith, ℕ, Bool, true, false, cond, List, [], ◌∷◌, map, Option, Some, None}
use Rattle.std.specs.List.{count_by}
use Rattle.std.proofs.lemmas.Bool.{cases_Bool, cases_lt, eqb-true, eqb-false, true≢false}
use Rattle.grasp_laws_network.proofs.Routing.{not_equal, is_itself}
use Rattle.grasp_model_node.specs.Node.{NodeState}
use Rattle.grasp_model_node.specs.Queue.{Queued, datagram, dial, send}
use Rattle.grasp_types.specs.declared.address.Locator.{Locator}
use Rattle.grasp_types.specs.declared.message.Message.{Message}
use Rattle.grasp_laws_node.specs.Dials.{evens_from}
use Rattle.grasp_laws_node.specs.Sends.{Follows, RecordsKnown}
use Rattle.grasp_laws_node.proofs.Addressed.Streams.{follows_rise}
use Rattle.grasp_model_network.specs.GoodSetting.{IsGoodSetting}
use Rattle.grasp_model_network.specs.Setting.{Setting, numbered}
use Rattle.grasp_model_network.specs.Streams.{StreamEnd, is_same_end, is_number}
use Rattle.grasp_model_network.specs.World.{Seat, end_of}
use Rattle.grasp_laws_delivery.specs.Heads.{Head, has_head_end, has_number, nears_at}
use Rattle.grasp_laws_delivery.specs.Kept.{IsArrived, IsQueuedDial, WaitsBehind, HeadWaits, QueueKept, NodeKept, GoodHead}
use Rattle.grasp_laws_delivery.specs.Ready.{Every, HasGoodNumber}
use Rattle.grasp_laws_delivery.proofs.Counts.{every_map, every_weaker, every_both, count_same, count_map}
use Rattle.grasp_laws_delivery.proofs.EndMaps.{numbered_head}
use Rattle.grasp_laws_delivery.proofs.Ends.{same_ends, end_itself, parts_are}
use Rattle.grasp_laws_delivery.proofs.HeadCounts.{EndsApart, even_end, good_apart, known_once}
use Rattle.grasp_laws_delivery.proofs.HeadMaps.{nears_map, numbered_near, numbered_fars, numbered_waits, numbered_good}
use Rattle.grasp_laws_delivery.proofs.NodeMoves.{follows_wider, records_wider, FarsStay, arrived_stays, node_moved}

-- while a node sends: these outputs of it are still to be sent or stay queued, and every other node stands as it stood
pub record AreSending (s : Setting) (seats : List Seat) (nodes node : ℕ) (core : NodeState) (hs : List Head) (dials : ℕ) (qs : List Queued) : Type 0 where
  pub others : (n : ℕ) (x : Seat) → n ≢ node → numbered seats n ≡ Some x → NodeKept hs n x
  pub queue : QueueKept hs node qs core.streams.dialled
  pub records : RecordsKnown (λ n. IsArrived hs node n) core
  pub nears : nears_at node hs ≡ evens_from 0 core.streams.dialled
  pub ends : Every (GoodHead s nodes dials) hs
  pub once : (k : ℕ) → 1 ≤ k → k ≤ dials → count_by (has_number k) hs ≡ 1

-- ---- without the first output

datagram_waits : (node sent link to : ℕ) (m : Message) (qs : List Queued) (h : Head) → HeadWaits node sent (datagram link to m ∷ qs) h → HeadWaits node sent qs h
datagram_waits node sent link to m qs h w at = by_number h.number (w at) where
  by_number : (o : Option ℕ) → WaitsBehind sent (datagram link to m ∷ qs) h.near.number h.to o → WaitsBehind sent qs h.near.number h.to o
  by_number None x = x
  by_number (Some k) x = x

send_waits : (node sent stream : ℕ) (m : Message) (qs : List Queued) (h : Head) → HeadWaits node sent (send stream m ∷ qs) h → HeadWaits node sent qs h
send_waits node sent stream m qs h w at = by_number h.number (w at) where
  by_number : (o : Option ℕ) → WaitsBehind sent (send stream m ∷ qs) h.near.number h.to o → WaitsBehind sent qs h.near.number h.to o
  by_number None x = x
  by_number (Some k) x = x

pub datagram_kept : (hs : List Head) (node link to : ℕ) (m : Message) (qs : List Queued) (dialled : ℕ) → QueueKept hs node (datagram link to m ∷ qs) dialled → QueueKept hs node qs dialled
datagram_kept hs node link to m qs dialled k = record {
  sent = k.sent;
  follows = k.follows;
  waits = every_weaker (HeadWaits node k.sent (datagram link to m ∷ qs)) (HeadWaits node k.sent qs) (datagram_waits node k.sent link to m qs) hs k.waits;
}

pub send_kept : (hs : List Head) (node stream : ℕ) (m : Message) (qs : List Queued) (dialled : ℕ) → QueueKept hs node (send stream m ∷ qs) dialled → QueueKept hs node qs dialled
send_kept hs node stream m qs dialled k = record {
  sent = k.sent;
  follows = k.follows.1;
  waits = every_weaker (HeadWaits node k.sent (send stream m ∷ qs)) (HeadWaits node k.sent qs) (send_waits node k.sent stream m qs) hs k.waits;
}

-- ---- a dial is sent

-- the dials that are queued are those of the next streams
pub queued_above : (P : ℕ → Type 0) (qs : List Queued) (d e stream : ℕ) (to : Locator) → Follows P d qs e → IsQueuedDial stream to qs → 2 * d ≤ stream
queued_above P [] d e stream to f q = absurd q
queued_above P (datagram link on m ∷ qs) d e stream to f q = queued_above P qs d e stream to f q
queued_above P (dial next peer ∷ qs) d e stream to f (inl same) = omega (arith, f.0, same.0)
queued_above P (dial next peer ∷ qs) d e stream to f (inr q) = let h : 2 * (d + 1) ≤ stream = queued_above P qs (d + 1) e stream to f.1 q in omega (arith, h)
queued_above P (send on m ∷ qs) d e stream to f q = queued_above P qs d e stream to f.1 q

-- the stream of the dial that is sent next
pub record IsNextDial (node stream : ℕ) (to : Locator) (h : Head) : Type 0 where
  pub here : h.near.node ≡ node
  pub number : h.near.number ≡ stream
  pub none : h.number ≡ None
  pub unopened : h.far ≡ None
  pub goes : h.to ≡ to

module _ (node : ℕ) (hs : List Head) (stream : ℕ) (to : Locator) (qs : List Queued) (dialled : ℕ) (k : QueueKept hs node (dial stream to ∷ qs) dialled) (ends : Every EndsApart hs) where
  abbrev e : StreamEnd
  e = end_of node stream

  pub stream_even : stream % 2 ≡ 0
  stream_even = omega (arith, k.follows.0)

  -- the next dial is one that the node made
  pub next_made : stream < 2 * dialled
  next_made = let r : k.sent + 1 ≤ dialled = follows_rise (λ n. IsArrived hs node n) qs (k.sent + 1) dialled k.follows.1 in omega (arith, r, k.follows.0)

  abbrev Waits : Head → Type 0
  Waits = HeadWaits node k.sent (dial stream to ∷ qs)

  waits_none : (h : Head) (o : Option ℕ) → h.near.number ≡ stream → WaitsBehind k.sent (dial stream to ∷ qs) h.near.number h.to o → o ≡ None
  waits_none h None is w = refl
  waits_none h (Some j) is w = absurd (omega (arith, is, k.follows.0, w))

  goes_there : (h : Head) → h.near.number ≡ stream → WaitsBehind k.sent (dial stream to ∷ qs) h.near.number h.to None → h.to ≡ to
  goes_there h is w = by_place w.1 where
    by_place : IsQueuedDial h.near.number h.to (dial stream to ∷ qs) → h.to ≡ to
    by_place (inl same) = sym same.1
    by_place (inr q) = let a = queued_above (λ n. IsArrived hs node n) qs (k.sent + 1) dialled h.near.number h.to k.follows.1 q in absurd (omega (arith, a, is, k.follows.0))

  next_of : (h : Head) → EndsApart h × Waits h → has_head_end e h ≡ true → IsNextDial node stream to h
  next_of h p has =
      let near : e ≡ h.near = same_ends e h.near (sym (even_end e stream_even h p.0) ∙ has) in
      let here : h.near.node ≡ node = ap (λ (x : StreamEnd). x.node) (sym near) in
      let number : h.near.number ≡ stream = ap (λ (x : StreamEnd). x.number) (sym near) in
      let none : h.number ≡ None = waits_none h h.number number (p.1 here) in
      record { here = here; number = number; none = none; unopened = p.0.unopened none; goes = goes_there h number (subst (WaitsBehind k.sent (dial stream to ∷ qs) h.near.number h.to) none (p.1 here)) }

  pub are_next : Every (λ h. has_head_end e h ≡ true → IsNextDial node stream to h) hs
  are_next = every_weaker (λ h. EndsApart h × Waits h) (λ h. has_head_end e h ≡ true → IsNextDial node stream to h) next_of hs (every_both EndsApart Waits hs ends k.waits)

  -- any other stream of the node waits behind one more dial
  behind : (h : Head) (o : Option ℕ) → EndsApart h → h.near.number ≢ stream → WaitsBehind k.sent (dial stream to ∷ qs) h.near.number h.to o → WaitsBehind (k.sent + 1) qs h.near.number h.to o
  behind h None g apart w = (more, queued w.1) where
    more : 2 * (k.sent + 1) ≤ h.near.number
    more = elim (cases_lt h.near.number (2 * (k.sent + 1))) [
      | inl less ↦ absurd (apart (omega (arith, less, w.0, g.even, k.follows.0)))
      | inr past ↦ omega (arith, past)
    ]

    queued : IsQueuedDial h.near.number h.to (dial stream to ∷ qs) → IsQueuedDial h.near.number h.to qs
    queued (inl same) = absurd (apart (sym same.0))
    queued (inr q) = q
  behind h (Some j) g apart w = omega (arith, w)

  wait_on : (number : ℕ) (h : Head) → EndsApart h × Waits h → HeadWaits node (k.sent + 1) qs (numbered_head e number h)
  wait_on number h p = by_test (has_head_end e h) refl where
    not_near : has_head_end e h ≡ false → h.near.node ≡ node → h.near.number ≢ stream
    not_near not at is =
        true≢false (sym (even_end e stream_even h p.0 ∙ subst (λ (x : StreamEnd). is_same_end x h.near ≡ true) (parts_are h.near node stream at is) (end_itself h.near)) ∙ not)

    by_test : (b : Bool) → has_head_end e h ≡ b → HeadWaits node (k.sent + 1) qs (cond b (record h { number = Some number }) h)
    by_test true has at = let n = next_of h p has in omega (arith, n.number, k.follows.0)
    by_test false not at = behind h h.number p.0 (not_near not at) (p.1 at)

  pub dial_kept : (number : ℕ) → QueueKept (map (numbered_head e number) hs) node qs dialled
  dial_kept number = record {
    sent = k.sent + 1;
    follows = follows_wider (λ n. IsArrived hs node n) (λ n. IsArrived (map (numbered_head e number) hs) node n) (λ n a. numbered_fars e number hs (end_of node n) a) qs (k.sent + 1) dialled k.follows.1;
    waits = every_map (λ h. EndsApart h × Waits h) (HeadWaits node (k.sent + 1) qs) (numbered_head e number) (wait_on number) hs (every_both EndsApart Waits hs ends k.waits);
  }

-- ---- numbers

module _ (e : StreamEnd) (dials : ℕ) where
  old_number : (j : ℕ) → j ≤ dials → (h : Head) → (has_head_end e h ≡ true → h.number ≡ None) → has_number j (numbered_head e (dials + 1) h) ≡ has_number j h
  old_number j most h none = by_test (has_head_end e h) refl where
    by_test : (b : Bool) → has_head_end e h ≡ b → has_number j (cond b (record h { number = Some (dials + 1) }) h) ≡ has_number j h
    by_test true has = not_equal (dials + 1) j (λ is. omega (arith, is, most)) ∙ sym (ap (is_number j) (none has))
    by_test false not = refl

  unused : (o : Option ℕ) → ((j : ℕ) → o ≡ Some j → j ≤ dials) → is_number (dials + 1) o ≡ false
  unused None few = refl
  unused (Some j) few = not_equal j (dials + 1) (λ is. let f : j ≤ dials = few j refl in omega (arith, is, f))

  new_number : (h : Head) → ((j : ℕ) → h.number ≡ Some j → j ≤ dials) → has_number (dials + 1) (numbered_head e (dials + 1) h) ≡ has_head_end e h
  new_number h few = by_test (has_head_end e h) refl where
    by_test : (b : Bool) → has_head_end e h ≡ b → has_number (dials + 1) (cond b (record h { number = Some (dials + 1) }) h) ≡ b
    by_test true has = is_itself (dials + 1)
    by_test false not = unused h.number few

few_numbers : (s : Setting) (nodes dials : ℕ) (h : Head) → GoodHead s nodes dials h → (j : ℕ) → h.number ≡ Some j → j ≤ dials
few_numbers s nodes dials h g j is = let d = subst (HasGoodNumber dials) is g.dialled in d.1

-- ---- one output after the other

module _ (s : Setting) (good : IsGoodSetting s) (seats : List Seat) (nodes node : ℕ) (core : NodeState) (hs : List Head) (dials : ℕ) where
  pub sends_datagram : (link to : ℕ) (m : Message) (qs : List Queued) → AreSending s seats nodes node core hs dials (datagram link to m ∷ qs) → AreSending s seats nodes node core hs dials qs
  sends_datagram link to m qs a = record {
    others = a.others;
    queue = datagram_kept hs node link to m qs core.streams.dialled a.queue;
    records = a.records;
    nears = a.nears;
    ends = a.ends;
    once = a.once;
  }

  pub sends_message : (stream : ℕ) (m : Message) (qs : List Queued) → AreSending s seats nodes node core hs dials (send stream m ∷ qs) → AreSending s seats nodes node core hs dials qs
  sends_message stream m qs a = record {
    others = a.others;
    queue = send_kept hs node stream m qs core.streams.dialled a.queue;
    records = a.records;
    nears = a.nears;
    ends = a.ends;
    once = a.once;
  }

  module _ (stream : ℕ) (to : Locator) (qs : List Queued) (a : AreSending s seats nodes node core hs dials (dial stream to ∷ qs)) where
    abbrev at : StreamEnd
    at = end_of node stream

    abbrev after : List Head
    after = map (numbered_head at (dials + 1)) hs

    apart_ends : Every EndsApart hs
    apart_ends = every_weaker (GoodHead s nodes dials) EndsApart (good_apart s good nodes dials) hs a.ends

    next : Every (λ h. has_head_end at h ≡ true → IsNextDial node stream to h) hs
    next = are_next node hs stream to qs core.streams.dialled a.queue apart_ends

    fars : FarsStay hs after
    fars f there = numbered_fars at (dials + 1) hs f there

    apart : (n : ℕ) → n ≢ node → Every (λ h. has_head_end at h ≡ true → h.near.node ≢ n) hs
    apart n other = every_weaker (λ h. has_head_end at h ≡ true → IsNextDial node stream to h) (λ h. has_head_end at h ≡ true → h.near.node ≢ n) (λ h d has is. other (sym is ∙ (d has).here)) hs next

    one : count_by (has_head_end at) hs ≡ 1
    one = known_once s good nodes dials hs a.ends a.once node core.streams.dialled stream a.nears
        (inr (stream_even node hs stream to qs core.streams.dialled a.queue apart_ends, next_made node hs stream to qs core.streams.dialled a.queue apart_ends))

    old_counts : (j : ℕ) → 1 ≤ j → j ≤ dials → count_by (has_number j) after ≡ 1
    old_counts j least most =
        count_map (has_number j) (numbered_head at (dials + 1)) hs
        ∙ (count_same (λ h. has_number j (numbered_head at (dials + 1) h)) (has_number j) hs
        (every_weaker (λ h. has_head_end at h ≡ true → IsNextDial node stream to h) (λ h. has_number j (numbered_head at (dials + 1) h) ≡ has_number j h)
        (λ h d. old_number at dials j most h (λ has. (d has).none)) hs next)
        ∙ a.once j least most)

    new_counts : count_by (has_number (dials + 1)) after ≡ 1
    new_counts =
        count_map (has_number (dials + 1)) (numbered_head at (dials + 1)) hs
        ∙ (count_same (λ h. has_number (dials + 1) (numbered_head at (dials + 1) h)) (has_head_end at) hs
        (every_weaker (GoodHead s nodes dials) (λ h. has_number (dials + 1) (numbered_head at (dials + 1) h) ≡ has_head_end at h)
        (λ h g. new_number at dials h (few_numbers s nodes dials h g)) hs a.ends)
        ∙ one)

    counts : (j : ℕ) → 1 ≤ j → j ≤ dials + 1 → count_by (has_number j) after ≡ 1
    counts j least most = elim (cases_Bool (j == dials + 1)) [
      | inl is ↦ subst (λ i. count_by (has_number i) after ≡ 1) (sym (eqb-true j (dials + 1) is)) new_counts
      | inr not ↦ let other : (j ≡ dials + 1) → ⊥ = eqb-false j (dials + 1) not in old_counts j least (below most other)
    ] where
      below : j ≤ dials + 1 → (j ≡ dials + 1 → ⊥) → j ≤ dials
      below m o = omega (arith, m, o)

    pub sends_dial : AreSending s seats nodes node core after (dials + 1) qs
    sends_dial = record {
      others = λ n x other there.
          node_moved hs after fars n x (nears_map (numbered_head at (dials + 1)) (numbered_near at (dials + 1)) n hs)
          (λ sent queue w. numbered_waits at (dials + 1) n sent queue hs (apart n other) w) (a.others n x other there);
      queue = dial_kept node hs stream to qs core.streams.dialled a.queue apart_ends (dials + 1);
      records = records_wider (λ n. IsArrived hs node n) (λ n. IsArrived after node n) (arrived_stays hs after fars node) core a.records;
      nears = nears_map (numbered_head at (dials + 1)) (numbered_near at (dials + 1)) node hs ∙ a.nears;
      ends = numbered_good at (dials + 1) s nodes dials hs refl
          (every_weaker (λ h. has_head_end at h ≡ true → IsNextDial node stream to h) (λ h. has_head_end at h ≡ true → h.far ≡ None) (λ h d has. (d has).unopened) hs next) a.ends;
      once = counts;
    }
