-- Where a message that a node sends on goes.
use Rattle.std.proofs.Common.{◌≡◌, ◌≢◌, ◌==◌, ℕ, Bool, true, false, cond, not, length, refl, ap}
use Rattle.std.specs.Bool.{Decides}
use Rattle.std.specs.Prelude.{Contains}
use Rattle.std.proofs.lemmas.Bool.{not-true, eqb-false, ne_eqb}
use Rattle.std.proofs.lemmas.Bool.Decides.{not_from_Decides}
use Rattle.std.proofs.lemmas.List.Elements.{All-contains, All-contains_itself, All-filter, filter_passes}
use Rattle.grasp_laws_hearing.proofs.Answering.{fits_decides}
use Rattle.grasp_laws_node.proofs.Apart.{ways_all}
use Rattle.grasp_laws_node.specs.Means.{Fits}
use Rattle.grasp_laws_node.specs.Relays.{IsWay}
use Rattle.grasp_laws_tables.proofs.Lists.{filter_keeps}
use Rattle.grasp_model_node.specs.Moves.{queue_up, may_queue, relay}
use Rattle.grasp_model_node.specs.Node.{NodeState}
use Rattle.grasp_model_node.specs.Queue.{along, all_ways, other_ways}
use Rattle.grasp_model_node.specs.declared.way.Way.{Way}
use Rattle.grasp_types.specs.declared.message.Message.{Message}
use Rattle.grasp_laws_datagrams.specs.Relaying.{OtherWaysAreOther, EachWayIsTaken, IsRelayed}

pub other_ways_are_other : OtherWaysAreOther
other_ways_are_other link links way = (there, back) where
  other : Way → Bool
  other w = not (w.link == link)

  there : Contains (other_ways link links) way → IsWay links way × (way.link ≢ link)
  there h = (
    (ways_all links way).0 (All-contains (λ (w : Way). Contains (all_ways links) w) (other_ways link links) way (All-filter other (λ w. Contains (all_ways links) w) (all_ways links) (All-contains_itself (all_ways links))) h),
    eqb-false way.link link (not-true (way.link == link) (All-contains (λ (w : Way). other w ≡ true) (other_ways link links) way (filter_passes other (all_ways links)) h)),
  )

  back : IsWay links way × (way.link ≢ link) → Contains (other_ways link links) way
  back h = filter_keeps other (all_ways links) way ((ways_all links way).1 h.0) (ap not (ne_eqb way.link link h.1))

pub each_way_is_taken : EachWayIsTaken
each_way_is_taken m ways = refl

pub relayed : (n : NodeState) (link : ℕ) (m : Message) → IsRelayed n link m (relay n m (other_ways link n.plan.links))
unfolding queue_up
relayed n link m = by (may_queue n m (length (other_ways link n.plan.links))) (fits_decides n m (length (other_ways link n.plan.links))) where
  by : (b : Bool) → Decides b (Fits n m (length (other_ways link n.plan.links))) → IsRelayed n link m (cond b (queue_up n (along m (other_ways link n.plan.links))) n)
  by true d = record { sent = λ f. refl; lost = λ no. absurd (no (d.0 refl)) }
  by false d = record { sent = λ f. absurd (not_from_Decides false d refl f); lost = λ no. refl }
