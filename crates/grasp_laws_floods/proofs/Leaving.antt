-- Moves of a node that leave as they were what it keeps of floods, what is registered, its searches and the discoveries that it remembers.
use Rattle.std.proofs.Common.{◌≡◌, refl, sym, ap, ◌∙◌, subst, ℕ, zero, suc, Bool, true, false, cond, not, ◌&&◌, nat_le, ◌-◌, List, [], ◌∷◌, length, Option, Some, None, Ok}
use Rattle.grasp_asa.specs.Answers.{flags_registered}
use Rattle.grasp_laws_node.specs.Alone.{LeavesTheRest}
use Rattle.grasp_model_node.specs.Datagrams.{serves, own_response, lowered, discovery_passed, discovery_answered, after_datagram, loops_of, flood_relayed}
use Rattle.grasp_model_node.specs.Declines.{Declining, may_decline, declined, removed, after_decline, after_declines}
use Rattle.grasp_model_node.specs.Draining.{after_drain}
use Rattle.grasp_model_node.specs.Moves.{with_sessions, begin_closing, queue_up, dial_record, may_queue, relay, dial_with}
use Rattle.grasp_model_node.specs.Node.{NodeState}
use Rattle.grasp_model_node.specs.Queue.{along, dial, send, other_ways}
use Rattle.grasp_model_node.specs.RegistryCalls.{close_stream, without_session, without_sessions}
use Rattle.grasp_model_node.specs.SessionCalls.{after_polling, with_adopted}
use Rattle.grasp_model_node.specs.Step.{Coming, TakesDatagram, Drains}
use Rattle.grasp_model_node.specs.Streams.{is_dialled_out, next_stream}
use Rattle.grasp_model_node.specs.declared.way.Way.{Way}
use Rattle.grasp_discovery.specs.Discoveries.{known_of}
use Rattle.grasp_discovery.specs.Topic.{topic_of, kind_of}
use Rattle.grasp_session.specs.Sessions.{owner_reply, stream_reply, after_remove}
use Rattle.grasp_types.specs.Flood.{first_loops}
use Rattle.grasp_types.specs.declared.address.Address.{Address}
use Rattle.grasp_types.specs.declared.address.Locator.{Locator}
use Rattle.grasp_types.specs.declared.flood.FloodPart.{FloodPart}
use Rattle.grasp_types.specs.declared.links.Neighbour.{Neighbour}
use Rattle.grasp_types.specs.declared.message.Answer.TheVariants.{Divert}
use Rattle.grasp_types.specs.declared.message.Message.{Message}
use Rattle.grasp_types.specs.declared.message.Message.TheVariants.{Discovery, Response, Flood}
use Rattle.grasp_types.specs.declared.objective.Objective.{Objective}
use Rattle.grasp_types.specs.declared.reply.ApiAnswer.{ApiAnswer}
use Rattle.grasp_types.specs.declared.reply.ApiAnswer.TheVariants as answer
use Rattle.grasp_types.specs.declared.reply.Reply.{Reply}
use Rattle.grasp_types.specs.declared.reply.Reply.TheVariants as reply
use Rattle.grasp_types.specs.declared.session.Handle.{Handle}

-- the four are as they were
pub record Leaves (n after : NodeState) : Type 0 where
  pub floods : after.floods ≡ n.floods
  pub registrations : after.registrations ≡ n.registrations
  pub searches : after.discoveries.searches ≡ n.discoveries.searches
  pub memories : after.discoveries.memories ≡ n.discoveries.memories

same : (n : NodeState) → Leaves n n
same n = record { floods = refl; registrations = refl; searches = refl; memories = refl }

and_then : (n m after : NodeState) → Leaves n m → Leaves m after → Leaves n after
and_then n m after a b = record {
  floods = b.floods ∙ a.floods;
  registrations = b.registrations ∙ a.registrations;
  searches = b.searches ∙ a.searches;
  memories = b.memories ∙ a.memories;
}

either : (b : Bool) (n x y : NodeState) → Leaves n x → Leaves n y → Leaves n (cond b x y)
either true n x y h k = h
either false n x y h k = k

-- ---- sessions end

one_declines : (n : NodeState) (d : Declining) → Leaves n (after_decline n d)
unfolding begin_closing queue_up with_sessions
one_declines n d =
    closed
    (either (may_decline n d.handle) n (declined n d) (removed n d.handle) (record { floods = refl; registrations = refl; searches = refl; memories = refl })
    (record { floods = refl; registrations = refl; searches = refl; memories = refl }))
  where
    closed : Leaves n (cond (may_decline n d.handle) (declined n d) (removed n d.handle)) → Leaves n (after_decline n d)
    closed s = record { floods = s.floods; registrations = s.registrations; searches = s.searches; memories = s.memories }

pub declines_leave : (ds : List Declining) (n : NodeState) → Leaves n (after_declines n ds)
unfolding after_declines
declines_leave [] n = same n
declines_leave (d ∷ ds) n = and_then n (after_decline n d) (after_declines (after_decline n d) ds) (one_declines n d) (declines_leave ds (after_decline n d))

closes : (n : NodeState) (stream : Option ℕ) → Leaves n (close_stream n stream)
unfolding begin_closing
closes n None = same n
closes n (Some stream) = record { floods = refl; registrations = refl; searches = refl; memories = refl }

one_without : (n : NodeState) (h : Option Handle) → Leaves n (without_session n h)
unfolding with_sessions
one_without n None = same n
one_without n (Some h) = left (closes (with_sessions n (after_remove n.sessions h)) (stream_reply n.sessions h)) where
  left : Leaves (with_sessions n (after_remove n.sessions h)) (without_session n (Some h)) → Leaves n (without_session n (Some h))
  left s = record { floods = s.floods; registrations = s.registrations; searches = s.searches; memories = s.memories }

pub sessions_leave : (k : ℕ) (n : NodeState) (asa : ℕ) → Leaves n (without_sessions k n asa)
unfolding without_sessions
sessions_leave zero n asa = same n
sessions_leave (suc k) n asa =
    and_then n (without_sessions k n asa) (without_sessions (suc k) n asa) (sessions_leave k n asa)
    (one_without (without_sessions k n asa) (owner_reply (without_sessions k n asa).sessions asa))

-- ---- a listener and a poll

pub adopting_leaves : (n : NodeState) (asa : ℕ) (h : Option Handle) → Leaves n (with_adopted n asa h)
unfolding with_sessions
adopting_leaves n asa None = same n
adopting_leaves n asa (Some h) = record { floods = refl; registrations = refl; searches = refl; memories = refl }

pub polling_leaves : (n : NodeState) (h : Handle) (a : ApiAnswer) → Leaves n (after_polling n h (Ok a))
unfolding with_sessions
polling_leaves n h (answer.Polled progress) = record { floods = refl; registrations = refl; searches = refl; memories = refl }
polling_leaves n h _ = record { floods = refl; registrations = refl; searches = refl; memories = refl }

-- ---- what is sent on and answered

pub relay_leaves : (n : NodeState) (m : Message) (ways : List Way) → Leaves n (relay n m ways)
unfolding queue_up
relay_leaves n m ways =
    either (may_queue n m (length ways)) n (queue_up n (along m ways)) n (record { floods = refl; registrations = refl; searches = refl; memories = refl }) (same n)

pub flood_relay_leaves : (n : NodeState) (link session : ℕ) (initiator : Address) (ttl : ℕ) (parts : List FloodPart) → Leaves n (flood_relayed n link session initiator ttl parts)
flood_relay_leaves n link session initiator ttl parts =
    let m : Message = Flood session initiator ttl (first_loops parts (loops_of parts - 1)) in
    let ways : List Way = other_ways link n.plan.links in
    either (nat_le 2 (loops_of parts)) n (relay n m ways) n (relay_leaves n m ways) (same n)

dial_leaves : (n : NodeState) (to : Locator) (m : Message) → Leaves n (dial_with n to m)
unfolding queue_up dial_record
dial_leaves n to m =
    either (may_queue n m 2 && not (is_dialled_out n.streams)) n (dial_record (queue_up n (dial (next_stream n.streams) to ∷ send (next_stream n.streams) m ∷ [])) None) n
    (record { floods = refl; registrations = refl; searches = refl; memories = refl }) (same n)

passed_leaves : (n : NodeState) (link : ℕ) (neighbour : Neighbour) (session : ℕ) (initiator : Address) (o : Objective) (known : Option (List Locator × ℕ))
    → Leaves n (discovery_passed n link neighbour session initiator o known)
passed_leaves n link neighbour session initiator o None =
    let m : Message = Discovery session initiator (lowered o) in
    let ways : List Way = other_ways link n.plan.links in
    either (nat_le 2 o.loops) n (relay n m ways) n (relay_leaves n m ways) (same n)
passed_leaves n link neighbour session initiator o (Some known) = dial_leaves n neighbour.locator (Response session initiator known.1 (Divert known.0) None)

pub answered_leaves : (n : NodeState) (link : ℕ) (neighbour : Neighbour) (session : ℕ) (initiator : Address) (o : Objective)
    → Leaves n (discovery_answered n link neighbour session initiator o)
answered_leaves n link neighbour session initiator o =
    let known : Option (List Locator × ℕ) = known_of n.discoveries (topic_of o.name (kind_of o.flags)) n.reading in
    either (serves o.flags (flags_registered n.registrations o.name)) n (dial_with n neighbour.locator (own_response n session initiator))
    (discovery_passed n link neighbour session initiator o known) (dial_leaves n neighbour.locator (own_response n session initiator))
    (passed_leaves n link neighbour session initiator o known)

-- ---- inputs

pub stream_leaves : (stream : ℕ) (x : Coming) (n after : NodeState) → LeavesTheRest stream x n after → Leaves n after
stream_leaves stream x n after l = record { floods = l.floods; registrations = l.registrations; searches = l.searches; memories = l.memories }

pub drain_leaves : (n after : NodeState) (most : ℕ) (r : Reply) → Drains n most r after → Leaves n after
unfolding after_drain
drain_leaves n after most (reply.Outputs outputs) d = like d.1 where
  like : after ≡ after_drain n most → Leaves n after
  like e = record {
    floods = ap (λ (m : NodeState). m.floods) e;
    registrations = ap (λ (m : NodeState). m.registrations) e;
    searches = ap (λ (m : NodeState). m.discoveries.searches) e;
    memories = ap (λ (m : NodeState). m.discoveries.memories) e;
  }
drain_leaves n after most reply.OutOfMemory d = subst (Leaves n) (sym d.1) (same n)
drain_leaves n after most _ d = absurd d

-- where a datagram is taken, and where memory is wanted for it
pub taking : (P : NodeState → Type 0) (n after : NodeState) (link from : ℕ) (x : Coming) (r : Reply) → TakesDatagram n link from x r after → P (after_datagram n link from x.carried) → P n → P after
taking P n after link from x reply.Taken t done old = subst P (sym t) done
taking P n after link from x reply.OutOfMemory t done old = subst P (sym t) old
taking P n after link from x _ t done old = absurd t
