-- A node that keeps and queues nothing but messages in range: each move leaves it so.
use Rattle.std.proofs.Common.{◌≡◌, refl, subst, ℕ, ◌≤◌, Bool, true, false, cond, not, ◌&&◌, List, [], ◌∷◌, length, Option, None, All}
use Rattle.std.proofs.lemmas.Bool.{leb-true, and_parts}
use Rattle.std.proofs.lemmas.List.Elements.{All-nil, All-cons, All-append}
use Rattle.grasp_asa.specs.Registrations.{Registrations}
use Rattle.grasp_discovery.specs.Discoveries.{Discoveries}
use Rattle.grasp_flood.specs.Floods.{Floods}
use Rattle.grasp_session.specs.Sessions.{Sessions}
use Rattle.grasp_types.specs.Address.{IsAddress, IsLocator}
use Rattle.grasp_types.specs.Message.{IsMessage}
use Rattle.grasp_types.specs.declared.address.Address.{Address}
use Rattle.grasp_types.specs.declared.address.Locator.{Locator}
use Rattle.grasp_types.specs.declared.message.Message.{Message}
use Rattle.grasp_wire.specs.Cutter.{Past}
use Rattle.grasp_wire.specs.Laws.{IsSendable}
use Rattle.grasp_model_node.specs.Moves.{with_reading, with_registrations, with_sessions, with_discoveries, with_floods, with_draw, begin_closing, keep_past, drop_record, open_record, dial_record, queue_up, may_queue, answer, relay, dial_with}
use Rattle.grasp_model_node.specs.Node.{NodeState}
use Rattle.grasp_model_node.specs.Queue.{Queued, datagram, dial, send, fits, has_room, along, encoding}
use Rattle.grasp_model_node.specs.Streams.{next_stream, is_dialled_out}
use Rattle.grasp_model_node.specs.declared.plan.NodePlan.{NodePlan}
use Rattle.grasp_model_node.specs.declared.way.Way.{Way}
use Rattle.grasp_laws_delivery.proofs.Fine.Cache.{AreKept}
use Rattle.grasp_laws_delivery.proofs.Fine.Registry.{AreEntered}
use Rattle.grasp_laws_delivery.proofs.Fine.Sessions.{AreFine}

-- what a plan's messages are made of is in range, and its limit isn't small
pub record IsRealPlan (plan : NodePlan) : Type 0 where
  pub address : IsAddress plan.address
  pub locator : IsLocator plan.locator
  pub least : 2048 ≤ plan.limit

-- a message that is queued for a stream can be sent
abbrev pub CanSend : ℕ → Queued → Type 0
CanSend limit (datagram link to m) = Unit {0}
CanSend limit (dial stream to) = Unit {0}
CanSend limit (send stream m) = IsSendable limit m

pub record IsInRange (plan : NodePlan) (n : NodeState) : Type 0 where
  pub plan_is : n.plan ≡ plan
  pub registrations : AreEntered n.registrations
  pub sessions : AreFine n.sessions
  pub cached : AreKept n.discoveries
  pub queue : All (CanSend plan.limit) n.queue

pub either : (plan : NodePlan) (b : Bool) (x y : NodeState) → IsInRange plan x → IsInRange plan y → IsInRange plan (cond b x y)
either plan true x y h k = h
either plan false x y h k = k

-- ---- moves

pub reading_real : (plan : NodePlan) (n : NodeState) (now : ℕ) → IsInRange plan n → IsInRange plan (with_reading n now)
unfolding with_reading
reading_real plan n now k = record { plan_is = k.plan_is; registrations = k.registrations; sessions = k.sessions; cached = k.cached; queue = k.queue }

pub draw_real : (plan : NodePlan) (n : NodeState) → IsInRange plan n → IsInRange plan (with_draw n)
unfolding with_draw
draw_real plan n k = record { plan_is = k.plan_is; registrations = k.registrations; sessions = k.sessions; cached = k.cached; queue = k.queue }

pub registrations_real : (plan : NodePlan) (n : NodeState) (r : Registrations) → AreEntered r → IsInRange plan n → IsInRange plan (with_registrations n r)
unfolding with_registrations
registrations_real plan n r h k = record { plan_is = k.plan_is; registrations = h; sessions = k.sessions; cached = k.cached; queue = k.queue }

pub sessions_real : (plan : NodePlan) (n : NodeState) (z : Sessions) → AreFine z → IsInRange plan n → IsInRange plan (with_sessions n z)
unfolding with_sessions
sessions_real plan n z h k = record { plan_is = k.plan_is; registrations = k.registrations; sessions = h; cached = k.cached; queue = k.queue }

pub discoveries_real : (plan : NodePlan) (n : NodeState) (d : Discoveries) → AreKept d → IsInRange plan n → IsInRange plan (with_discoveries n d)
unfolding with_discoveries
discoveries_real plan n d h k = record { plan_is = k.plan_is; registrations = k.registrations; sessions = k.sessions; cached = h; queue = k.queue }

pub floods_real : (plan : NodePlan) (n : NodeState) (f : Floods) → IsInRange plan n → IsInRange plan (with_floods n f)
unfolding with_floods
floods_real plan n f k = record { plan_is = k.plan_is; registrations = k.registrations; sessions = k.sessions; cached = k.cached; queue = k.queue }

pub closing_real : (plan : NodePlan) (n : NodeState) (stream : ℕ) → IsInRange plan n → IsInRange plan (begin_closing n stream)
unfolding begin_closing
closing_real plan n stream k = record { plan_is = k.plan_is; registrations = k.registrations; sessions = k.sessions; cached = k.cached; queue = k.queue }

pub keep_past_real : (plan : NodePlan) (n : NodeState) (stream : ℕ) (past : Past) → IsInRange plan n → IsInRange plan (keep_past n stream past)
unfolding keep_past
keep_past_real plan n stream past k = record { plan_is = k.plan_is; registrations = k.registrations; sessions = k.sessions; cached = k.cached; queue = k.queue }

pub drop_real : (plan : NodePlan) (n : NodeState) (stream : ℕ) → IsInRange plan n → IsInRange plan (drop_record n stream)
unfolding drop_record
drop_real plan n stream k = record { plan_is = k.plan_is; registrations = k.registrations; sessions = k.sessions; cached = k.cached; queue = k.queue }

pub open_real : (plan : NodePlan) (n : NodeState) (stream : ℕ) (from : Address) → IsInRange plan n → IsInRange plan (open_record n stream from)
unfolding open_record
open_real plan n stream from k = record { plan_is = k.plan_is; registrations = k.registrations; sessions = k.sessions; cached = k.cached; queue = k.queue }

pub dial_real : (plan : NodePlan) (n : NodeState) (past : Option Past) → IsInRange plan n → IsInRange plan (dial_record n past)
unfolding dial_record
dial_real plan n past k = record { plan_is = k.plan_is; registrations = k.registrations; sessions = k.sessions; cached = k.cached; queue = k.queue }

pub queue_real : (plan : NodePlan) (n : NodeState) (outputs : List Queued) → All (CanSend plan.limit) outputs → IsInRange plan n → IsInRange plan (queue_up n outputs)
unfolding queue_up
queue_real plan n outputs h k =
    record { plan_is = k.plan_is; registrations = k.registrations; sessions = k.sessions; cached = k.cached; queue = All-append (CanSend plan.limit) n.queue outputs k.queue h }

-- ---- what is queued

pub one_send : (limit stream : ℕ) (m : Message) → IsSendable limit m → All (CanSend limit) (send stream m ∷ [])
one_send limit stream m h = All-cons (CanSend limit) (send stream m) [] h (All-nil (CanSend limit))

pub dial_send : (limit stream : ℕ) (to : Locator) (m : Message) → IsSendable limit m → All (CanSend limit) (dial stream to ∷ send stream m ∷ [])
dial_send limit stream to m h = All-cons (CanSend limit) (dial stream to) (send stream m ∷ []) tt (one_send limit stream m h)

pub along_send : (limit : ℕ) (m : Message) (ways : List Way) → All (CanSend limit) (along m ways)
along_send limit m [] = All-nil (CanSend limit)
along_send limit m (way ∷ ways) = All-cons (CanSend limit) (datagram way.link way.to m) (along m ways) tt (along_send limit m ways)

pub fitting : (plan : NodePlan) (n : NodeState) (m : Message) → IsMessage m → n.plan ≡ plan → fits n.plan.limit m ≡ true → IsSendable plan.limit m
fitting plan n m is same e = (is, subst (λ (p : NodePlan). length (encoding m) ≤ p.limit) same (leb-true (length (encoding m)) n.plan.limit e))

may_fit : (plan : NodePlan) (n : NodeState) (m : Message) (count : ℕ) → IsMessage m → n.plan ≡ plan → may_queue n m count ≡ true → IsSendable plan.limit m
may_fit plan n m count is same e = fitting plan n m is same (and_parts (fits n.plan.limit m) (has_room n.queue count) e).0

pub answer_real : (plan : NodePlan) (n : NodeState) (stream : ℕ) (m : Message) → IsMessage m → IsInRange plan n → IsInRange plan (answer n stream m)
answer_real plan n stream m is k = by_test (may_queue n m 1) refl where
  by_test : (b : Bool) → may_queue n m 1 ≡ b → IsInRange plan (cond b (queue_up n (send stream m ∷ [])) n)
  by_test true e = queue_real plan n (send stream m ∷ []) (one_send plan.limit stream m (may_fit plan n m 1 is k.plan_is e)) k
  by_test false e = k

pub relay_real : (plan : NodePlan) (n : NodeState) (m : Message) (ways : List Way) → IsInRange plan n → IsInRange plan (relay n m ways)
relay_real plan n m ways k = either plan (may_queue n m (length ways)) (queue_up n (along m ways)) n (queue_real plan n (along m ways) (along_send plan.limit m ways) k) k

pub dial_with_real : (plan : NodePlan) (n : NodeState) (to : Locator) (m : Message) → IsMessage m → IsInRange plan n → IsInRange plan (dial_with n to m)
dial_with_real plan n to m is k = by_test (may_queue n m 2 && not (is_dialled_out n.streams)) refl where
  by_test : (b : Bool) → (may_queue n m 2 && not (is_dialled_out n.streams)) ≡ b
      → IsInRange plan (cond b (dial_record (queue_up n (dial (next_stream n.streams) to ∷ send (next_stream n.streams) m ∷ [])) None) n)
  by_test true e =
      let f = and_parts (may_queue n m 2) (not (is_dialled_out n.streams)) e in
      dial_real plan (queue_up n (dial (next_stream n.streams) to ∷ send (next_stream n.streams) m ∷ [])) None
      (queue_real plan n (dial (next_stream n.streams) to ∷ send (next_stream n.streams) m ∷ []) (dial_send plan.limit (next_stream n.streams) to m (may_fit plan n m 2 is k.plan_is f.0)) k)
  by_test false e = k
