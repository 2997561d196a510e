-- What a call queues: a message of its own for every neighbour, or no datagram.
use Rattle.std.proofs.Common.{◌≡◌, ℕ, List, [], ◌∷◌, ◌++◌, All, Option, None, Some, Ok, refl, sym, ap, ◌∙◌, subst}
use Rattle.std.proofs.lemmas.List.{append-nil, append_assoc}
use Rattle.std.proofs.lemmas.List.Elements.{All-nil, All-cons, All-append}
use Rattle.grasp_discovery.specs.declared.answers.Find.{Find}
use Rattle.grasp_discovery.specs.declared.answers.Find.TheVariants as find
use Rattle.grasp_types.specs.declared.address.Locator.{Locator}
use Rattle.grasp_types.specs.declared.call.Call.{Call}
use Rattle.grasp_types.specs.declared.call.Call.TheVariants as call
use Rattle.grasp_types.specs.declared.message.Message.{Message}
use Rattle.grasp_types.specs.declared.reply.ApiAnswer.{ApiAnswer}
use Rattle.grasp_types.specs.declared.reply.Reply.{Reply}
use Rattle.grasp_types.specs.declared.reply.Reply.TheVariants as reply
use Rattle.grasp_types.specs.declared.session.Kind.{Kind}
use Rattle.grasp_model_node.specs.Draws.{next_session}
use Rattle.grasp_model_node.specs.FloodCalls.{to_all, find_of, found_as, begun, looked, discovery_message, flood_message}
use Rattle.grasp_model_node.specs.Moves.{with_discoveries, with_draw, queue_up}
use Rattle.grasp_model_node.specs.Node.{NodeState}
use Rattle.grasp_model_node.specs.Queue.{Queued, send, dial}
use Rattle.grasp_model_node.specs.SessionCalls.{stream_at, act_message, request_of}
use Rattle.grasp_model_node.specs.Step.{MayCall, after_call, Calls}
use Rattle.grasp_laws_node.specs.Relays.{IsNoDatagram, AddsNoDatagram, own_message, Spreads, CallQueues}
use Rattle.grasp_laws_node.proofs.SentOn.{Grows, as_before}
use Rattle.grasp_laws_node.proofs.Walk.Calls.{asks_anything, answered_moves}
use Rattle.grasp_laws_node.proofs.Walk.Moves.{Move, Moves, anything, calls, next_dial, kept, unfolded, says, declines, asks}

-- ---- no datagram is queued

pub adds_nothing : (n : NodeState) → AddsNoDatagram n n
adds_nothing n = record { more = []; queued = sym (append-nil n.queue); none = All-nil IsNoDatagram }

pub adds_more : (from n after : NodeState) (outputs : List Queued) → after.queue ≡ n.queue ++ outputs → All IsNoDatagram outputs → AddsNoDatagram from n → AddsNoDatagram from after
adds_more from n after outputs q none a = record {
  more = a.more ++ outputs;
  queued = q ∙ (ap (λ q. q ++ outputs) a.queued ∙ append_assoc from.queue a.more outputs);
  none = All-append IsNoDatagram a.more outputs a.none none;
}

pub one_send : (stream : ℕ) (m : Message) → All IsNoDatagram (send stream m ∷ [])
one_send stream m = All-cons IsNoDatagram (send stream m) [] tt (All-nil IsNoDatagram)

pub one_dial : (n : NodeState) (to : Locator) (m : Message) → All IsNoDatagram (next_dial n to m)
one_dial n to m = All-cons IsNoDatagram (dial _ to) (send _ m ∷ []) tt (one_send _ m)

-- no datagram is queued, and the memories are as they were
record Quiet (n after : NodeState) : Type 0 where
  pub queue : AddsNoDatagram n after
  pub discoveries : after.discoveries.memories ≡ n.discoveries.memories
  pub floods : after.floods.memories ≡ n.floods.memories

itself : (n : NodeState) → Quiet n n
itself n = record { queue = adds_nothing n; discoveries = refl; floods = refl }

move_quiet : (from base : NodeState) (asa : ℕ) (n after : NodeState) → Move anything base n (calls asa) after → Quiet from n → Quiet from after
unfolding unfolded
move_quiet from base asa n after (says h saying may so e room fit) a = record {
  queue = adds_more from n _ (send (stream_at n h) (act_message n h saying) ∷ []) refl (one_send _ _) a.queue;
  discoveries = a.discoveries;
  floods = a.floods;
}
move_quiet from base asa n after (declines d i so e room) a = record { queue = adds_more from n _ (send d.stream d.message ∷ []) refl (one_send _ _) a.queue; discoveries = a.discoveries; floods = a.floods }
move_quiet from base asa n after (asks kind timeout o peer is so e free room fit) a = record {
  queue = adds_more from n _ (next_dial n peer (request_of kind (next_session n) o)) refl (one_dial n peer (request_of kind (next_session n) o)) a.queue;
  discoveries = a.discoveries;
  floods = a.floods;
}
move_quiet from base asa n after _ a = record { queue = record { more = a.queue.more; queued = a.queue.queued; none = a.queue.none }; discoveries = a.discoveries; floods = a.floods }

-- ---- calls

-- what a call does
abbrev Does : NodeState → Option Message → NodeState → Type 0
Does n m after = Spreads n m after × Grows n after

quietly : (n after : NodeState) → Quiet n after → Does n None after
quietly n after q = (q.queue, as_before n after q.discoveries q.floods)

quiet_moves : (n after : NodeState) (asa : ℕ) → Moves anything n (calls asa) n after → Does n None after
quiet_moves n after asa ms = quietly n after (kept (Quiet n) (λ m next x a. move_quiet n n asa m next x a) ms (itself n))

begins : (n : NodeState) (asa : ℕ) (name : List ℕ) (kind : Kind) (loops timeout : ℕ) → Does n (Some (discovery_message n name kind loops)) (begun n asa name kind loops timeout)
unfolding with_discoveries with_draw queue_up
begins n asa name kind loops timeout = ((refl, refl), as_before n (begun n asa name kind loops timeout) refl refl)

floods_all : (n : NodeState) (m : Message) → Does n (Some m) (to_all (with_draw n) m)
unfolding with_draw queue_up
floods_all n m = ((refl, refl), as_before n (to_all (with_draw n) m) refl refl)

looks : (n : NodeState) (asa : ℕ) (name : List ℕ) (kind : Kind) (loops timeout : ℕ) (answer : Find)
    → Does n (own_message n asa (call.Discover name kind loops timeout) (found_as answer)) (looked n asa name kind loops timeout answer)
unfolding with_discoveries
looks n asa name kind loops timeout find.Fresh = begins n asa name kind loops timeout
looks n asa name kind loops timeout answer = (record { more = []; queued = sym (append-nil n.queue); none = All-nil IsNoDatagram }, as_before n _ refl refl)

answered : (n : NodeState) (asa : ℕ) (it : Call) (a : ApiAnswer) → MayCall n asa it (Ok a) → Does n (own_message n asa it a) (after_call n asa it (Ok a))
answered n asa (call.Discover name kind loops timeout) a m =
    subst (λ b. Does n (own_message n asa (call.Discover name kind loops timeout) b) (looked n asa name kind loops timeout (find_of n asa name kind))) (sym m.2)
    (looks n asa name kind loops timeout (find_of n asa name kind))
answered n asa (call.Flood name value ttl loops) a m =
    subst (λ b. Does n (own_message n asa (call.Flood name value ttl loops) b) (to_all (with_draw n) (flood_message n asa name value ttl loops))) (sym m.2)
    (floods_all n (flood_message n asa name value ttl loops))
answered n asa it a m = quiet_moves n _ asa (answered_moves anything n asa it a (asks_anything n asa it _) m)

pub call_queues : (n after : NodeState) (asa : ℕ) (it : Call) (r : Reply) → Calls n asa it r after → CallQueues n asa it r after × Grows n after
call_queues n after asa it (reply.Api a) c = subst (Does n (own_message n asa it a)) (sym c.1) (answered n asa it a c.0)
call_queues n after asa it (reply.Refused refused) c = let q : after.queue ≡ n.queue = ap (λ (m : NodeState). m.queue) c.1 in (q, subst (Grows n) (sym c.1) (as_before n n refl refl))
call_queues n after asa it _ c = absurd c
