-- What is so of a node's plan and discoveries, and of all that it has queued behind what was queued: each move leaves it so.
use Rattle.std.proofs.Common.{◌≡◌, sym, ap, ◌∙◌, subst, ℕ, Bool, true, false, cond, not, ◌&&◌, List, [], ◌∷◌, ◌++◌, drop, length, append-nil, append_assoc, Option, None, All}
use Rattle.std.proofs.Math.Seq.{drop-append_seam}
use Rattle.std.proofs.lemmas.List.Elements.{All-nil, All-cons, All-append}
use Rattle.grasp_asa.specs.Registrations.{Registrations}
use Rattle.grasp_laws_node.specs.Alone.{IsNoResponse}
use Rattle.grasp_model_node.specs.Moves.{with_registrations, with_sessions, with_discoveries, with_floods, with_draw, begin_closing, keep_past, drop_record, open_record, dial_record, queue_up, may_queue, answer, relay, dial_with}
use Rattle.grasp_model_node.specs.Node.{NodeState}
use Rattle.grasp_model_node.specs.Queue.{Queued, datagram, dial, send, along}
use Rattle.grasp_model_node.specs.Streams.{next_stream, is_dialled_out}
use Rattle.grasp_model_node.specs.declared.plan.NodePlan.{NodePlan}
use Rattle.grasp_model_node.specs.declared.way.Way.{Way}
use Rattle.grasp_discovery.specs.Discoveries.{Discoveries}
use Rattle.grasp_flood.specs.Floods.{Floods}
use Rattle.grasp_session.specs.Sessions.{Sessions}
use Rattle.grasp_types.specs.declared.address.Address.{Address}
use Rattle.grasp_types.specs.declared.address.Locator.{Locator}
use Rattle.grasp_types.specs.declared.message.Message.{Message}
use Rattle.grasp_wire.specs.Cutter.{Past}

-- what is queued is no response
abbrev pub IsSilent : Queued → Type 0
IsSilent (send stream m) = IsNoResponse m
IsSilent (dial stream to) = Unit {0}
IsSilent (datagram link to m) = Unit {0}

abbrev pub Silently : (Queued → Type 0) → Type 0
Silently Q = (q : Queued) → IsSilent q → Q q

-- P holds of the node's plan and discoveries, and Q holds of each output that is queued behind the old ones
pub record Keeps (old : List Queued) (Q : Queued → Type 0) (P : NodePlan → Discoveries → Type 0) (n : NodeState) : Type 0 where
  pub has : P n.plan n.discoveries
  pub more : List Queued
  pub queue : n.queue ≡ old ++ more
  pub each : All Q more

pub started : (Q : Queued → Type 0) (P : NodePlan → Discoveries → Type 0) (n : NodeState) → P n.plan n.discoveries → Keeps n.queue Q P n
started Q P n has = record { has = has; more = []; queue = sym (append-nil n.queue); each = All-nil Q }

pub whole_queue : (old : List Queued) (Q : Queued → Type 0) (P : NodePlan → Discoveries → Type 0) (n : NodeState) → All Q old → Keeps old Q P n → All Q n.queue
whole_queue old Q P n all k = subst (All Q) (sym k.queue) (All-append Q old k.more all k.each)

pub new_queue : (old : List Queued) (Q : Queued → Type 0) (P : NodePlan → Discoveries → Type 0) (n : NodeState) → Keeps old Q P n → All Q (drop (length old) n.queue)
new_queue old Q P n k = subst (All Q) (sym (ap (drop (length old)) k.queue ∙ drop-append_seam old k.more)) k.each

module _ (old : List Queued) (Q : Queued → Type 0) (P : NodePlan → Discoveries → Type 0) where
  pub either_keeps : (b : Bool) (x y : NodeState) → Keeps old Q P x → Keeps old Q P y → Keeps old Q P (cond b x y)
  either_keeps true x y h k = h
  either_keeps false x y h k = k

  -- ---- moves

  pub draw_keeps : (n : NodeState) → Keeps old Q P n → Keeps old Q P (with_draw n)
  unfolding with_draw
  draw_keeps n k = record { has = k.has; more = k.more; queue = k.queue; each = k.each }

  pub registrations_keeps : (n : NodeState) (r : Registrations) → Keeps old Q P n → Keeps old Q P (with_registrations n r)
  unfolding with_registrations
  registrations_keeps n r k = record { has = k.has; more = k.more; queue = k.queue; each = k.each }

  pub sessions_keeps : (n : NodeState) (z : Sessions) → Keeps old Q P n → Keeps old Q P (with_sessions n z)
  unfolding with_sessions
  sessions_keeps n z k = record { has = k.has; more = k.more; queue = k.queue; each = k.each }

  pub discoveries_keeps : (n : NodeState) (d : Discoveries) → P n.plan d → Keeps old Q P n → Keeps old Q P (with_discoveries n d)
  unfolding with_discoveries
  discoveries_keeps n d h k = record { has = h; more = k.more; queue = k.queue; each = k.each }

  pub floods_keeps : (n : NodeState) (f : Floods) → Keeps old Q P n → Keeps old Q P (with_floods n f)
  unfolding with_floods
  floods_keeps n f k = record { has = k.has; more = k.more; queue = k.queue; each = k.each }

  pub closing_keeps : (n : NodeState) (stream : ℕ) → Keeps old Q P n → Keeps old Q P (begin_closing n stream)
  unfolding begin_closing
  closing_keeps n stream k = record { has = k.has; more = k.more; queue = k.queue; each = k.each }

  pub past_keeps : (n : NodeState) (stream : ℕ) (past : Past) → Keeps old Q P n → Keeps old Q P (keep_past n stream past)
  unfolding keep_past
  past_keeps n stream past k = record { has = k.has; more = k.more; queue = k.queue; each = k.each }

  pub drop_keeps : (n : NodeState) (stream : ℕ) → Keeps old Q P n → Keeps old Q P (drop_record n stream)
  unfolding drop_record
  drop_keeps n stream k = record { has = k.has; more = k.more; queue = k.queue; each = k.each }

  pub open_keeps : (n : NodeState) (stream : ℕ) (from : Address) → Keeps old Q P n → Keeps old Q P (open_record n stream from)
  unfolding open_record
  open_keeps n stream from k = record { has = k.has; more = k.more; queue = k.queue; each = k.each }

  pub dial_keeps : (n : NodeState) (past : Option Past) → Keeps old Q P n → Keeps old Q P (dial_record n past)
  unfolding dial_record
  dial_keeps n past k = record { has = k.has; more = k.more; queue = k.queue; each = k.each }

  pub queue_keeps : (n : NodeState) (outputs : List Queued) → All Q outputs → Keeps old Q P n → Keeps old Q P (queue_up n outputs)
  unfolding queue_up
  queue_keeps n outputs h k = record {
    has = k.has;
    more = k.more ++ outputs;
    queue = ap (λ q. q ++ outputs) k.queue ∙ append_assoc old k.more outputs;
    each = All-append Q k.more outputs k.each h;
  }

  -- ---- what a delivery makes a node send

  pub one_so : (stream : ℕ) (m : Message) → Q (send stream m) → All Q (send stream m ∷ [])
  one_so stream m is = All-cons Q (send stream m) [] is (All-nil Q)

  pub answer_keeps : (n : NodeState) (stream : ℕ) (m : Message) → Q (send stream m) → Keeps old Q P n → Keeps old Q P (answer n stream m)
  answer_keeps n stream m is k = either_keeps (may_queue n m 1) (queue_up n (send stream m ∷ [])) n (queue_keeps n (send stream m ∷ []) (one_so stream m is) k) k

  module _ (silent : Silently Q) where
    pub along_so : (m : Message) (ways : List Way) → All Q (along m ways)
    along_so m [] = All-nil Q
    along_so m (way ∷ ways) = All-cons Q (datagram way.link way.to m) (along m ways) (silent (datagram way.link way.to m) tt) (along_so m ways)

    pub dial_so : (stream : ℕ) (to : Locator) (m : Message) → Q (send stream m) → All Q (dial stream to ∷ send stream m ∷ [])
    dial_so stream to m is = All-cons Q (dial stream to) (send stream m ∷ []) (silent (dial stream to) tt) (one_so stream m is)

    pub relay_keeps : (n : NodeState) (m : Message) (ways : List Way) → Keeps old Q P n → Keeps old Q P (relay n m ways)
    relay_keeps n m ways k = either_keeps (may_queue n m (length ways)) (queue_up n (along m ways)) n (queue_keeps n (along m ways) (along_so m ways) k) k

    -- what is dialled, where it is
    pub dialled_keeps : (n : NodeState) (to : Locator) (m : Message) → Q (send (next_stream n.streams) m) → Keeps old Q P n
        → Keeps old Q P (dial_record (queue_up n (dial (next_stream n.streams) to ∷ send (next_stream n.streams) m ∷ [])) None)
    dialled_keeps n to m is k =
        let outputs = dial (next_stream n.streams) to ∷ send (next_stream n.streams) m ∷ [] in
        dial_keeps (queue_up n outputs) None (queue_keeps n outputs (dial_so (next_stream n.streams) to m is) k)

    pub dial_with_keeps : (n : NodeState) (to : Locator) (m : Message) → Q (send (next_stream n.streams) m) → Keeps old Q P n → Keeps old Q P (dial_with n to m)
    dial_with_keeps n to m is k =
        either_keeps (may_queue n m 2 && not (is_dialled_out n.streams)) (dial_record (queue_up n (dial (next_stream n.streams) to ∷ send (next_stream n.streams) m ∷ [])) None) n
        (dialled_keeps n to m is k) k
