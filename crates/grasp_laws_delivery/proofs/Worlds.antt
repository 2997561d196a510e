-- The streams of every network that turns lead to are in order.
use Rattle.std.proofs.Common.{◌≡◌, ◌≢◌, ◌≤◌, ◌+◌, ◌-◌, ◌==◌, refl, sym, ap, ◌∙◌, subst, arith, ℕ, Bool, true, false, cond, List, [], length, map, Option, Some, None, slice_get, All}
use Rattle.std.proofs.lemmas.Option.{none-some}
use Rattle.std.proofs.lemmas.List.{length-set}
use Rattle.std.proofs.lemmas.List.Elements.{All-nil}
use Rattle.grasp_laws_node.proofs.Bounded.Nodes.{nodes_kept}
use Rattle.grasp_model_node.specs.BoundedNodes.{IsBoundedNode}
use Rattle.grasp_model_node.specs.Node.{NodeState}
use Rattle.grasp_model_node.specs.Step.{Coming, NodeStep}
use Rattle.grasp_model_node.specs.Streams.{StreamRecord, StreamsState, no_streams}
use Rattle.grasp_laws_node.specs.Consistent.{IsConsistent, TiesAreKept}
use Rattle.grasp_pool.specs.Functions.{pool_of, pool_of_image}
use Rattle.grasp_pool.specs.declared.image.PoolImage.{PoolImage}
use Rattle.grasp_types.specs.declared.reply.Reply.{Reply}
use Rattle.grasp_types.specs.declared.traffic.Input.{Input}
use Rattle.grasp_laws_node.specs.Dials.{evens_from}
use Rattle.grasp_laws_node.specs.Sends.{IsKnown}
use Rattle.grasp_laws_network.proofs.Begun.{begun_streams, begun_queue}
use Rattle.grasp_laws_network.proofs.EachNode.{IsMade, is_made, reached_each}
use Rattle.grasp_laws_network.proofs.Here.{visits_are_here}
use Rattle.grasp_laws_network.proofs.Restarted.{Restarting, restart_seats, begun_seat}
use Rattle.grasp_laws_network.proofs.Telling.{one_agent, one_least}
use Rattle.grasp_laws_network.specs.Telling.{OneAgent}
use Rattle.grasp_model_network.specs.Events.{visit_of, after_visit, Occurs}
use Rattle.grasp_model_network.specs.GoodSetting.{IsGoodSetting}
use Rattle.grasp_model_network.specs.Openings.{first_seat}
use Rattle.grasp_model_network.specs.Plans.{IsNode}
use Rattle.grasp_model_network.specs.Restarting.{told_at}
use Rattle.grasp_model_network.specs.Runs.{IsReached, first_world}
use Rattle.grasp_model_network.specs.Sending.{seat_with}
use Rattle.grasp_model_network.specs.Setting.{Setting, numbered}
use Rattle.grasp_model_network.specs.Streams.{StreamEnd}
use Rattle.grasp_model_network.specs.Visits.{Visit, Choice, MayCome}
use Rattle.grasp_model_network.specs.World.{Seat, WorldState, present_life}
use Rattle.grasp_model_network.specs.declared.event.Event.{Event}
use Rattle.grasp_laws_delivery.specs.Heads.{Head, heads, nears_at}
use Rattle.grasp_laws_delivery.specs.Kept.{IsArrived, HeadWaits, QueueKept, NodeKept, GoodHead, AreKept, StreamsKept}
use Rattle.grasp_laws_delivery.specs.Ready.{Every, FarWaits, HasGoodFar}
use Rattle.grasp_laws_delivery.proofs.Appending.{put_nodes}
use Rattle.grasp_laws_delivery.proofs.Counts.{every_map, every_weaker}
use Rattle.grasp_laws_delivery.proofs.Draining.{AreSound, drained_kept}
use Rattle.grasp_laws_delivery.proofs.Events.{visit_kept}
use Rattle.grasp_laws_delivery.proofs.FarSides.{told_waits}
use Rattle.grasp_laws_delivery.proofs.HeadCounts.{none_near}
use Rattle.grasp_laws_delivery.proofs.Holding.{PartsKeep, parts_keep}
use Rattle.grasp_laws_delivery.proofs.Turned.{told_by, told_heads}

-- the streams are in order, and each node is one to which steps lead
pub record IsInOrder (s : Setting) (w : WorldState) : Type 0 where
  pub streams : StreamsKept s w
  pub sound : AreSound w

-- ---- an agent changes alone

one_kept : (s : Setting) (w x : WorldState) → OneAgent w x → StreamsKept s w → StreamsKept s x
one_kept s w x o k = subst (λ (y : WorldState). StreamsKept s y) (sym o.after) (record {
  kept = record {
    nodes = put_nodes (NodeKept (heads w.streams)) w.seats o.node (seat_with o.seat.core o.agent) (one_least w x o)
        (record { queue = was.queue; records = was.records; nears = was.nears }) (λ n y apart there. k.kept.nodes n y there);
    ends = subst (λ nodes. Every (GoodHead s nodes w.dials) (heads w.streams)) (sym (length-set w.seats (o.node - 1) (seat_with o.seat.core o.agent))) k.kept.ends;
    once = k.kept.once;
  };
  waits = k.waits;
}) where
  was : NodeKept (heads w.streams) o.node o.seat
  was = k.kept.nodes o.node o.seat o.here

-- ---- a life that begins

-- a node that has dialled nothing and queued nothing, where no stream was dialled by it
quiet_kept : (hs : List Head) (node : ℕ) (seat : Seat) → seat.core.queue ≡ [] → seat.core.streams ≡ no_streams → nears_at node hs ≡ [] → Every (λ (h : Head). h.near.node ≢ node) hs
    → NodeKept hs node seat
quiet_kept hs node seat queue streams none apart = record {
  queue = subst (λ q. QueueKept hs node q seat.core.streams.dialled) (sym queue) (record {
    sent = seat.core.streams.dialled;
    follows = refl;
    waits = every_weaker (λ (h : Head). h.near.node ≢ node) (HeadWaits node seat.core.streams.dialled []) (λ h other at. absurd (other at)) hs apart;
  });
  records = subst (λ (t : StreamsState). All (λ (x : StreamRecord). IsKnown (λ n. IsArrived hs node n) t.dialled x.number) t.records) (sym streams) (All-nil (λ (x : StreamRecord). IsKnown (λ n. IsArrived hs node n) 0 x.number));
  nears = subst (λ (t : StreamsState). nears_at node hs ≡ evens_from 0 t.dialled) (sym streams) none;
}

-- ---- a life more

more_node : (nodes node : ℕ) → IsNode nodes node → IsNode (nodes + 1) node
more_node nodes node is = record { least = is.least; most = omega (arith, is.most) }

more_far : (s : Setting) (nodes : ℕ) (number : Option ℕ) (far : Option StreamEnd) → HasGoodFar s nodes number far → HasGoodFar s (nodes + 1) number far
more_far s nodes number None good = tt
more_far s nodes None (Some e) good = absurd good
more_far s nodes (Some k) (Some e) good = (more_node nodes e.node good.0, good.1)

more_ends : (s : Setting) (nodes dials : ℕ) (h : Head) → GoodHead s nodes dials h → GoodHead s (nodes + 1) dials h
more_ends s nodes dials h good = record {
  member = more_node nodes h.near.node good.member;
  even = good.even;
  dialled = good.dialled;
  opened = more_far s nodes h.number h.far good.opened;
}

module _ (s : Setting) (good : IsGoodSetting s) (w x : WorldState) (node : ℕ) (image : PoolImage) (t : Restarting s w node image x) (k : StreamsKept s w) where
  was : NodeKept (heads w.streams) (present_life w node) t.seat
  was = k.kept.nodes (present_life w node) t.seat t.here

  absent : IsNode (length w.seats) (length w.seats + 1) → ⊥
  absent is = let most : length w.seats + 1 ≤ length w.seats = is.most in omega (arith, most)

  -- no stream was dialled by the life that begins
  elsewhere : Every (λ (h : Head). h.near.node ≢ length w.seats + 1) (heads w.streams)
  elsewhere =
      every_weaker (GoodHead s (length w.seats) w.dials) (λ (h : Head). h.near.node ≢ length w.seats + 1) (λ h g at. absent (subst (IsNode (length w.seats)) at g.member)) (heads w.streams) k.kept.ends

  begins : NodeKept (heads w.streams) (length w.seats + 1) (begun_seat t.member image)
  begins =
      quiet_kept (heads w.streams) (length w.seats + 1) (begun_seat t.member image) (begun_queue t.member.plan (pool_of_image image))
      (begun_streams t.member.plan (pool_of_image image)) (none_near s good (length w.seats) w.dials (length w.seats + 1) absent (heads w.streams) k.kept.ends) elsewhere

  heads_stay : heads x.streams ≡ heads w.streams
  heads_stay = ap heads t.streams ∙ told_heads s node (present_life w node) w.streams

  restarted_kept : StreamsKept s x
  restarted_kept = record {
    kept = subst (λ dials. AreKept s x.seats (heads x.streams) dials) (sym (ap (λ (y : WorldState). y.dials) t.rest)) (subst (λ hs. AreKept s x.seats hs w.dials) (sym heads_stay) (record {
      nodes = restart_seats (NodeKept (heads w.streams)) s w node image x t (record { queue = was.queue; records = was.records; nears = was.nears }) begins k.kept.nodes;
      ends = subst (λ nodes. Every (GoodHead s nodes w.dials) (heads w.streams)) (sym t.count)
          (every_weaker (GoodHead s (length w.seats) w.dials) (GoodHead s (length w.seats + 1) w.dials) (more_ends s (length w.seats) w.dials) (heads w.streams) k.kept.ends);
      once = k.kept.once;
    }));
    waits = subst (Every FarWaits) (sym t.streams) (every_map FarWaits FarWaits (told_at s node (present_life w node)) (told_by FarWaits told_waits s node (present_life w node)) w.streams k.waits);
  }

-- ---- the beginning

first_nodes : (s : Setting) (node : ℕ) (seat : Seat) → numbered (map first_seat s.members) node ≡ Some seat → NodeKept [] node seat
first_nodes s node seat found = by_zero (node == 0) refl where
  of_member : IsMade first_seat s.members (node - 1) seat → NodeKept [] node seat
  of_member m =
      subst (NodeKept [] node) m.made
      (quiet_kept [] node (first_seat m.of) (begun_queue m.of.plan (pool_of m.of.roots)) (begun_streams m.of.plan (pool_of m.of.roots)) refl tt)

  by_zero : (b : Bool) → (node == 0) ≡ b → NodeKept [] node seat
  by_zero true is = absurd (none-some seat (subst (λ z. cond z None (slice_get (map first_seat s.members) (node - 1)) ≡ Some seat) is found))
  by_zero false is = of_member (is_made first_seat s.members (node - 1) seat (subst (λ z. cond z None (slice_get (map first_seat s.members) (node - 1)) ≡ Some seat) is found))

first_kept : (s : Setting) → StreamsKept s (first_world s)
unfolding first_world
first_kept s = record {
  kept = record { nodes = first_nodes s; ends = tt; once = λ k least most. absurd (omega (arith, least, most)) };
  waits = tt;
}

-- ---- all of them

module _ (ties : TiesAreKept) (s : Setting) where
  sound_steps : (k : ℕ) (n after : NodeState) (now : ℕ) (i : Input) (x : Coming) (r : Reply) → IsBoundedNode n × IsConsistent n → NodeStep n now i x r after → IsBoundedNode after × IsConsistent after
  sound_steps k n after now i x r p step = (nodes_kept.1 n after now i x r p.0 step, ties.1 n after now i x r p.0 p.1 step)

  all_sound : (w : WorldState) → IsReached s w → AreSound w
  all_sound w r = reached_each (λ k n. IsBoundedNode n × IsConsistent n) s w sound_steps (λ life k m e. (nodes_kept.0 m.plan, ties.0 m.plan)) r

  step_kept : IsGoodSetting s → (w : WorldState) (e : Event) (c : Choice) (v : Visit) → IsReached s w → StreamsKept s w → Occurs s w e c → visit_of s w e ≡ Some v → StreamsKept s (after_visit s w e v c)
  step_kept good w e c v r k o is =
      visit_kept ties s good w v c k (all_sound w r) (visits_are_here s w e v is) (subst (λ (x : Option Visit). MayCome x c) is o.comes) e is

  parts_kept : IsGoodSetting s → PartsKeep s (StreamsKept s)
  parts_kept good = record {
    steps = λ w e c v r k o is step reached. step_kept good w e c v r k o is;
    told = λ w x e r t k. one_kept s w x (one_agent s w e x t) k;
    drains = λ w node max r k least. drained_kept ties s good w node max k (all_sound w r);
    settles = λ w x node p r t k. one_kept s w x t.one k;
    restarts = λ w x node image r t k. restarted_kept s good w x node image t k;
  }

  pub reached_in_order : (w : WorldState) → IsReached s w → IsInOrder s w
  reached_in_order w r = record { streams = parts_keep s (StreamsKept s) (parts_kept r.good) (first_kept s) w r; sound = all_sound w r }
