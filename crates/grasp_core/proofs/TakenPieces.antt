-- How a node takes a piece of a stream.
use Rattle.std.proofs.Common.{◌≡◌, ◌<◌, ◌+◌, ℕ, Bool, true, false, List, Option, Some, None, length, nat_le, refl, sym, ap, ◌∙◌, subst, if◌then◌else◌, arith}
use Rattle.std.proofs.lemmas.Bool.{true≢false, le-leb, leb-true}
use Rattle.grasp_wire.specs.Cutter.{Past}
use Rattle.grasp_wire.specs.declared.cutter.Cutter.{Cutter}
use Rattle.grasp_model_node.proofs.ClosingThenGone.{broken-closing}
use Rattle.grasp_core.proofs.SamePlan.{heard-plan}
use Rattle.grasp_model_node.specs.Bytes.{AddsOn, past_after, bytes_on, after_bytes, broken, starved, most_bytes}
use Rattle.grasp_core.specs.Contract.{Meeting, MeetsBytes, StarvedAt}
use Rattle.grasp_core.specs.Feeding.{Feeding, Feeds, Keeping, LeftOpen, LeftShut, LeftFull, LeftStarved, after_all, after_some, taken, with_piece}
use Rattle.grasp_model_node.specs.Hear.{Heard}
use Rattle.grasp_model_node.specs.Moves.{begin_closing, keep_past}
use Rattle.grasp_model_node.specs.Node.{NodeState}
use Rattle.grasp_core.specs.Stands.{CutsAs, CutsOpen, NodeStands, StreamsStand, Putting, after_take}
use Rattle.grasp_model_node.specs.Streams.{StreamsState, past_of, with_past}
use Rattle.grasp_core.specs.declared.node_core.NodeCore.{NodeCore}
use Rattle.grasp_core.specs.declared.streams.Streams.{Streams}

-- ---- the record of the stream

-- only the streams change
pub with_streams : (core : NodeCore) (n : NodeState) (s : Streams) (t : StreamsState) → NodeStands core n → s.limit ≡ core.streams.limit → StreamsStand s t → NodeStands (record core { streams = s }) (record n { streams = t })
with_streams core n s t h e k = record { plan = h.plan; ways = h.ways; limit = e ∙ h.limit; reading = h.reading; registrations = h.registrations; sessions = h.sessions; discoveries = h.discoveries; floods = h.floods; streams = k; queue = h.queue; draws = h.draws }

-- a cutter is taken out
pub takes_out : (core : NodeCore) (n : NodeState) (s : Streams) (stream : ℕ) → NodeStands core n → s.limit ≡ core.streams.limit
    → ((t : StreamsState) → StreamsStand core.streams t → StreamsStand s (after_take t stream (past_of t stream)))
    → NodeStands (record core { streams = s }) (taken n stream (past_of n.streams stream))
unfolding begin_closing
takes_out core n s stream h e takes = by_past (past_of n.streams stream) (takes n.streams h.streams) where
  by_past : (o : Option Past) → StreamsStand s (after_take n.streams stream o) → NodeStands (record core { streams = s }) (taken n stream o)
  by_past None k = with_streams core n s n.streams h e k
  by_past (Some past) k = with_streams core n s _ h e k

-- a cutter is put back
pub puts_back : (core : NodeCore) (k : Keeping) (c : Cutter) (s : Streams) (stream : ℕ) → NodeStands core k.node → CutsOpen k.node.plan.limit c k.past → s.limit ≡ core.streams.limit
    → ((x : Putting) → StreamsStand core.streams x.streams → CutsOpen core.streams.limit c x.past → StreamsStand s (with_past x.streams stream (Some x.past)))
    → NodeStands (record core { streams = s }) (keep_past k.node stream k.past)
unfolding keep_past
puts_back core k c s stream h cuts e puts =
    with_streams core k.node s _ h e (puts (record { streams = k.node.streams; past = k.past }) h.streams (subst (λ (l : ℕ). CutsOpen l c k.past) (sym h.limit) cuts))

-- ---- the piece

abbrev pub feeding : ℕ → Meeting → Past → Feeding
feeding stream x past = record { node = begin_closing x.node stream; past = past; added = x.coming.added }

-- the stream was open, and its cutter was taken out
pub record WasOpen (core : NodeCore) (stream : ℕ) (piece : List ℕ) (x : Meeting) (c : Cutter) : Type 0 where
  pub past : Past
  pub past_is : past_of x.node.streams stream ≡ Some past
  pub feeds : Feeds core c piece (feeding stream x past)

pub was_open : (core later : NodeCore) (stream : ℕ) (piece : List ℕ) (x : Meeting) (c : Cutter) → MeetsBytes core stream piece x
    → ((n : NodeState) → NodeStands core n → CutsAs n.plan.limit (Some c) (past_of n.streams stream))
    → ((n : NodeState) → NodeStands core n → NodeStands later (taken n stream (past_of n.streams stream)))
    → WasOpen later stream piece x c
unfolding begin_closing
was_open core later stream piece x c meets cuts takes = by_past (past_of x.node.streams stream) refl (cuts x.node meets.stands) (takes x.node meets.stands) meets.adds where
  by_past : (o : Option Past) → past_of x.node.streams stream ≡ o → CutsAs x.node.plan.limit (Some c) o → NodeStands later (taken x.node stream o) → AddsOn x.node.plan.limit piece x.coming.added o → WasOpen later stream piece x c
  by_past None e k s a = absurd k
  by_past (Some past) e k s a = record { past = past; past_is = e; feeds = record { stands = s; cuts = k; divides = a } }

-- the stream was closing, or had no record
pub was_closed : (core later : NodeCore) (stream : ℕ) (piece : List ℕ) (x : Meeting) → MeetsBytes core stream piece x
    → ((n : NodeState) → NodeStands core n → CutsAs n.plan.limit None (past_of n.streams stream))
    → ((n : NodeState) → NodeStands core n → NodeStands later (taken n stream (past_of n.streams stream)))
    → NodeStands later (after_bytes x.node stream piece x.coming.added)
unfolding after_bytes
was_closed core later stream piece x meets cuts takes = by_past (past_of x.node.streams stream) (cuts x.node meets.stands) (takes x.node meets.stands) where
  by_past : (o : Option Past) → CutsAs x.node.plan.limit None o → NodeStands later (taken x.node stream o) → NodeStands later (bytes_on x.node stream piece x.coming.added o)
  by_past None k s = s
  by_past (Some past) k s = absurd k

when_true : (b : Bool) (core : NodeCore) (x y : NodeState) → b ≡ true → NodeStands core x → NodeStands core (if b then x else y)
when_true true core x y e h = h
when_true false core x y e h = absurd (true≢false (sym e))

when_false : (b : Bool) (core : NodeCore) (x y : NodeState) → b ≡ false → NodeStands core y → NodeStands core (if b then x else y)
when_false true core x y e h = absurd (true≢false e)
when_false false core x y e h = h

-- what stands after the bytes
bytes_stand : (core later : NodeCore) (stream : ℕ) (piece : List ℕ) (x : Meeting) (c : Cutter) → (w : WasOpen core stream piece x c) → NodeStands later (bytes_on x.node stream piece x.coming.added (Some w.past)) → NodeStands later (after_bytes x.node stream piece x.coming.added)
unfolding after_bytes
bytes_stand core later stream piece x c w h = subst (λ (o : Option Past). NodeStands later (bytes_on x.node stream piece x.coming.added o)) (sym w.past_is) h

pub still_open : (core heard_core later : NodeCore) (stream : ℕ) (piece : List ℕ) (x : Meeting) (c last : Cutter) → (w : WasOpen core stream piece x c)
    → LeftOpen stream piece (feeding stream x w.past) heard_core last
    → ((k : Keeping) → NodeStands heard_core k.node → CutsOpen k.node.plan.limit last k.past → NodeStands later (keep_past k.node stream k.past))
    → NodeStands later (after_bytes x.node stream piece x.coming.added)
still_open core heard_core later stream piece x c last w left keeps =
    let f : Feeding = feeding stream x w.past in
    let y : Heard = after_all stream (with_piece piece f) in
    let past : Past = past_after w.past piece x.coming.added in
    let cuts : CutsOpen y.node.plan.limit last past = subst (λ (l : ℕ). CutsOpen l last past) (sym (ap (λ p. p.limit) (heard-plan f.node stream f.added))) left.then.cuts in
    bytes_stand core later stream piece x c w (when_true (nat_le (length w.past.fed + length piece) most_bytes) later _ _ (le-leb _ _ left.room)
    (when_true y.is_open later _ _ left.then.opens (keeps (record { node = y.node; past = past }) left.then.stands cuts)))

pub now_shut : (core later : NodeCore) (stream : ℕ) (piece : List ℕ) (x : Meeting) (c : Cutter) → (w : WasOpen core stream piece x c)
    → LeftShut stream piece (feeding stream x w.past) later
    → NodeStands later (after_bytes x.node stream piece x.coming.added)
now_shut core later stream piece x c w left =
    let y : Heard = after_all stream (with_piece piece (feeding stream x w.past)) in
    bytes_stand core later stream piece x c w (when_true (nat_le (length w.past.fed + length piece) most_bytes) later _ _ (le-leb _ _ left.room)
    (when_false y.is_open later _ _ left.then.opens left.then.stands))

no_room : (a b : ℕ) → b < a → (t : Bool) → nat_le a b ≡ t → t ≡ false
no_room a b lt true e = let l = leb-true a b e in absurd (omega arith)
no_room a b lt false e = refl

pub too_many : (core full later : NodeCore) (stream : ℕ) (piece : List ℕ) (x : Meeting) (c : Cutter) → (w : WasOpen core stream piece x c)
    → LeftFull piece (feeding stream x w.past) full
    → ((n : NodeState) → NodeStands full n → NodeStands later (broken n stream))
    → NodeStands later (after_bytes x.node stream piece x.coming.added)
too_many core full later stream piece x c w left breaks =
    bytes_stand core later stream piece x c w (when_false (nat_le (length w.past.fed + length piece) most_bytes) later _ _ (no_room _ _ left.no_room _ refl)
    (subst (NodeStands later) (broken-closing x.node stream) (breaks (begin_closing x.node stream) left.stands)))

pub now_starved : (core hungry later : NodeCore) (stream : ℕ) (piece : List ℕ) (x : Meeting) (c : Cutter) → (w : WasOpen core stream piece x c)
    → LeftStarved stream piece (feeding stream x w.past) hungry
    → ((n : NodeState) → NodeStands hungry n → NodeStands later (starved n stream))
    → StarvedAt later stream piece x
now_starved core hungry later stream piece x c w left starves =
    let y : Heard = after_some stream (with_piece piece (feeding stream x w.past)) left.then.some in
    record {
      after = starved y.node stream;
      starves = record {
        some = left.then.some;
        others = left.then.others;
        parts = left.then.parts;
        past = w.past;
        was_open = w.past_is;
        room = le-leb _ _ left.room;
        still_open = left.then.opens;
        after_is = refl;
      };
      stands = starves y.node left.then.stands;
    }
