-- Each datagram is a list of moves.
use Rattle.std.proofs.Common.{◌≡◌, ℕ, ◌-◌, nat_le, not, ◌&&◌, List, length, Option, Some, None, refl}
use Rattle.std.proofs.lemmas.Bool.{cond_both}
use Rattle.grasp_asa.specs.Answers.{flags_registered}
use Rattle.grasp_discovery.specs.Discoveries as discovery
use Rattle.grasp_discovery.specs.Topic.{topic_of, kind_of}
use Rattle.grasp_discovery.specs.declared.answers.Cause.{Cause}
use Rattle.grasp_discovery.specs.declared.answers.Heard as answered
use Rattle.grasp_discovery.specs.declared.answers.Heard.TheVariants as discovered
use Rattle.grasp_flood.specs.Floods as flood
use Rattle.grasp_flood.specs.declared.heard.Heard as told
use Rattle.grasp_flood.specs.declared.heard.Heard.TheVariants as flooded
use Rattle.grasp_types.specs.Flood.{first_loops}
use Rattle.grasp_types.specs.Origin.{origin_of}
use Rattle.grasp_types.specs.Same.{same_address}
use Rattle.grasp_types.specs.declared.address.Address.{Address}
use Rattle.grasp_types.specs.declared.address.Locator.{Locator}
use Rattle.grasp_types.specs.declared.flood.FloodPart.{FloodPart}
use Rattle.grasp_types.specs.declared.links.Neighbour.{Neighbour}
use Rattle.grasp_types.specs.declared.message.Answer.TheVariants.{Divert}
use Rattle.grasp_types.specs.declared.message.Message.{Message}
use Rattle.grasp_types.specs.declared.message.Message.TheVariants.{Discovery, Response, Flood}
use Rattle.grasp_types.specs.declared.objective.Objective.{Objective}
use Rattle.grasp_model_node.specs.Datagrams.{serves, lowered, own_response, discovery_passed, discovery_answered, discovery_kept, discovery_heard, is_dropped, after_discovery, loops_of, flood_kept, flood_heard, after_flood, datagram_of, datagram_by, after_datagram}
use Rattle.grasp_model_node.specs.Hear.{neighbour_at}
use Rattle.grasp_model_node.specs.Moves.{dial_record, queue_up, may_queue, relay, dial_with}
use Rattle.grasp_model_node.specs.Node.{NodeState}
use Rattle.grasp_model_node.specs.Queue.{other_ways, along}
use Rattle.grasp_model_node.specs.Streams.{is_dialled_out}
use Rattle.grasp_model_node.specs.declared.way.Way.{Way}
use Rattle.grasp_laws_node.proofs.Walk.Moves as move
use Rattle.grasp_laws_node.proofs.Walk.Moves.{Known, Moves, IsResponse, datagrams, next_dial, further}

module _ (k : Known) (base start : NodeState) where
  abbrev To : NodeState → Type 0
  To n = Moves k base datagrams start n

  relay_moves : (n : NodeState) (m : Message) (ways : List Way) → To n → To (relay n m ways)
  relay_moves n m ways w = cond_both (may_queue n m (length ways)) (queue_up n (along m ways)) n To (λ e. further w (move.relays m ways e)) (λ e. w)

  dial_with_moves : (n : NodeState) (to : Locator) (m : Message) → IsResponse m → To n → To (dial_with n to m)
  dial_with_moves n to m i w =
      cond_both (may_queue n m 2 && not (is_dialled_out n.streams)) (dial_record (queue_up n (next_dial n to m)) None) n To (λ e. further w (move.replies to m i e)) (λ e. w)

  -- ---- a discovery

  passed_moves : (n : NodeState) (link : ℕ) (neighbour : Neighbour) (session : ℕ) (initiator : Address) (o : Objective) (known : Option (List Locator × ℕ)) → To n
      → To (discovery_passed n link neighbour session initiator o known)
  passed_moves n link neighbour session initiator o None w =
      let m = Discovery session initiator (lowered o) in
      let ways = other_ways link n.plan.links in
      cond_both (nat_le 2 o.loops) (relay n m ways) n To (λ e. relay_moves n m ways w) (λ e. w)
  passed_moves n link neighbour session initiator o (Some known) w = dial_with_moves n neighbour.locator (Response session initiator known.1 (Divert known.0) None) tt w

  answered_moves : (n : NodeState) (link : ℕ) (neighbour : Neighbour) (session : ℕ) (initiator : Address) (o : Objective) → To n → To (discovery_answered n link neighbour session initiator o)
  answered_moves n link neighbour session initiator o w =
      let known = discovery.known_of n.discoveries (topic_of o.name (kind_of o.flags)) n.reading in
      let m = own_response n session initiator in
      cond_both (serves o.flags (flags_registered n.registrations o.name)) (dial_with n neighbour.locator m) (discovery_passed n link neighbour session initiator o known) To
      (λ e. dial_with_moves n neighbour.locator m tt w)
      (λ e. passed_moves n link neighbour session initiator o known w)

  heard_moves : (n : NodeState) (cause : Cause) (neighbour : Neighbour) (session : ℕ) (initiator : Address) (o : Objective) (h : answered.Heard) → discovery.heard_reply n.discoveries (origin_of session initiator) ≡ h
      → To n → To (discovery_heard n cause neighbour session initiator o h)
  heard_moves n cause neighbour session initiator o discovered.Known e w = w
  heard_moves n cause neighbour session initiator o discovered.NoPlace e w = w
  heard_moves n cause neighbour session initiator o discovered.New e w =
      answered_moves (discovery_kept n cause session initiator o) cause.link neighbour session initiator o (further w (move.remembers cause session initiator o e))

  discovery_moves : (n : NodeState) (cause : Cause) (neighbour : Neighbour) (session : ℕ) (initiator : Address) (o : Objective) → To n → To (after_discovery n cause neighbour session initiator o)
  discovery_moves n cause neighbour session initiator o w =
      let h = discovery.heard_reply n.discoveries (origin_of session initiator) in
      cond_both (is_dropped n initiator o.flags) n (discovery_heard n cause neighbour session initiator o h) To (λ e. w) (λ e. heard_moves n cause neighbour session initiator o h refl w)

  -- ---- a flood

  flood_heard_moves : (n : NodeState) (link session : ℕ) (initiator : Address) (ttl : ℕ) (parts : List FloodPart) (h : told.Heard) → flood.heard_reply n.floods (origin_of session initiator) ≡ h → To n
      → To (flood_heard n link session initiator ttl parts h)
  flood_heard_moves n link session initiator ttl parts flooded.Known e w = further w (move.learns session initiator ttl parts flooded.Known e)
  flood_heard_moves n link session initiator ttl parts flooded.NoPlace e w = w
  flood_heard_moves n link session initiator ttl parts flooded.New e w =
      let a = flood_kept n session initiator ttl parts flooded.New in
      let m = Flood session initiator ttl (first_loops parts (loops_of parts - 1)) in
      let ways = other_ways link a.plan.links in
      let renewed : To a = further w (move.learns session initiator ttl parts flooded.New e) in
      cond_both (nat_le 2 (loops_of parts)) (relay a m ways) a To (λ f. relay_moves a m ways renewed) (λ f. renewed)

  flood_moves : (n : NodeState) (link session : ℕ) (initiator : Address) (ttl : ℕ) (parts : List FloodPart) → To n → To (after_flood n link session initiator ttl parts)
  flood_moves n link session initiator ttl parts w =
      let h = flood.heard_reply n.floods (origin_of session initiator) in
      cond_both (same_address n.plan.address initiator) n (flood_heard n link session initiator ttl parts h) To (λ e. w) (λ e. flood_heard_moves n link session initiator ttl parts h refl w)

  -- ---- a datagram

  datagram_of_moves : (n : NodeState) (cause : Cause) (neighbour : Neighbour) (m : Option Message) → To n → To (datagram_of n cause neighbour m)
  datagram_of_moves n cause neighbour (Some (Discovery session initiator o)) w = discovery_moves n cause neighbour session initiator o w
  datagram_of_moves n cause neighbour (Some (Flood session initiator ttl parts)) w = flood_moves n cause.link session initiator ttl parts w
  datagram_of_moves n cause neighbour _ w = w

  datagram_by_moves : (n : NodeState) (cause : Cause) (m : Option Message) (o : Option Neighbour) → To n → To (datagram_by n cause m o)
  datagram_by_moves n cause m None w = w
  datagram_by_moves n cause m (Some neighbour) w = datagram_of_moves n cause neighbour m w

  pub datagram_moves : (n : NodeState) (link from : ℕ) (m : Option Message) → To n → To (after_datagram n link from m)
  unfolding after_datagram
  datagram_moves n link from m w = datagram_by_moves n (record { link = link; from = from }) m (neighbour_at n link from) w
