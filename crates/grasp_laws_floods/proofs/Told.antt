-- What was made was flooded by a call at a node of the network.
use Rattle.std.proofs.Common.{◌≡◌, refl, sym, ap, ◌∙◌, subst, arith, ℕ, zero, suc, ◌-◌, ◌==◌, Bool, true, false, cond, List, [], ◌∷◌, length, All, Option, Some, None, slice_get}
use Rattle.std.proofs.lemmas.List.Elements.{All-weaker}
use Rattle.std.proofs.lemmas.Option.{none-some, same_Some}
use Rattle.grasp_model_node.specs.Queue.{Queued, datagram, dial, send}
use Rattle.grasp_flood.specs.Floods.{read_of}
use Rattle.grasp_model_network.specs.Setting.{Member, Setting, numbered}
use Rattle.grasp_model_network.specs.World.{WorldState}
use Rattle.grasp_types.specs.declared.address.Address.{Address}
use Rattle.grasp_types.specs.declared.address.Locator.{Locator}
use Rattle.grasp_types.specs.declared.flood.FloodRead.{FloodRead}
use Rattle.grasp_types.specs.declared.message.Message.{Message}
use Rattle.grasp_types.specs.declared.message.Message.TheVariants.{Flood}
use Rattle.grasp_types.specs.declared.objective.Objective.{Objective}
use Rattle.grasp_laws_floods.proofs.Happened.{IsMade}
use Rattle.grasp_laws_floods.proofs.Made.{Made, PartMade, ReadMade, PartsMade, QueuedMade, EntryMade}
use Rattle.grasp_laws_floods.proofs.Nodes.{NodeMade}
use Rattle.grasp_laws_floods.proofs.Ranges.{AreMembers}
use Rattle.grasp_laws_floods.proofs.Worlds.{SentMade}
use Rattle.grasp_laws_floods.specs.Real.{IsFloodOf, IsCalled, IsReadCalled, FloodsAreReal, IsMessageCalled, IsQueuedCalled, FloodsOnTheWay}

-- a network whose lives are these members', in order, and in which all floods were made
pub record AreSound (s : Setting) (ms : List Member) (w : WorldState) : Type 0 where
  pub count : length w.seats ≡ length ms
  pub are : AreMembers s ms
  pub made : IsMade ms w

-- ---- the seat of a life

-- something stands at this place
pub record Stands {A : Type 0} (xs : List A) (n : ℕ) : Type 0 where
  pub x : A
  pub is : numbered xs n ≡ Some x

same_rest : (a b : ℕ) → suc a ≡ suc b → a ≡ b
same_rest a b e = omega arith

no_length : {A : Type 0} (x : A) (xs : List A) → 0 ≡ length (x ∷ xs) → ⊥
no_length x xs e = omega arith

slice_stands : {A B : Type 0} (xs : List A) (ys : List B) (i : ℕ) (y : B) → length xs ≡ length ys → slice_get ys i ≡ Some y → (x : A) × (slice_get xs i ≡ Some x)
slice_stands xs [] i y e f = absurd (none-some y f)
slice_stands [] (z ∷ ys) i y e f = absurd (no_length z ys e)
slice_stands (x ∷ xs) (z ∷ ys) zero y e f = (x, refl)
slice_stands (x ∷ xs) (z ∷ ys) (suc i) y e f = slice_stands xs ys i y (same_rest (length xs) (length ys) e) f

pub stands : {A B : Type 0} (xs : List A) (ys : List B) (n : ℕ) (y : B) → length xs ≡ length ys → numbered ys n ≡ Some y → Stands xs n
stands {A} xs ys n y e f = by_zero (n == 0) refl where
  by_zero : (b : Bool) → (n == 0) ≡ b → Stands xs n
  by_zero true is = absurd (none-some y (subst (λ z. cond z None (slice_get ys (n - 1)) ≡ Some y) is f))
  by_zero false is = from (slice_stands xs ys (n - 1) y e (subst (λ z. cond z None (slice_get ys (n - 1)) ≡ Some y) is f)) where
    from : (x : A) × (slice_get xs (n - 1) ≡ Some x) → Stands xs n
    from p = record { x = p.0; is = rw is p.1 }

seat_for : (s : Setting) (ms : List Member) (w : WorldState) (i : Address) (o : Objective) (l : Option Locator) → AreSound s ms w → (m : Made ms w.flood_calls i o l) → Stands w.seats m.call.node → IsFloodOf w i o l m.call
seat_for s ms w i o l k m st = of_node (k.made.nodes m.call.node st.x st.is) where
  of_node : NodeMade ms w.flood_calls m.call.node st.x.core → IsFloodOf w i o l m.call
  of_node n = record {
    seat = st.x;
    made_at = st.is;
    address = m.address ∙ ap (λ (x : Member). x.plan.address) (same_Some m.member n.member (sym m.made_at ∙ n.found)) ∙ sym (ap (λ p. p.address) n.plan);
    name = m.name;
    value = m.value;
    flags = m.flags;
    loops = m.loops;
    no_locator = m.no_locator;
  }

pub is_called : (s : Setting) (ms : List Member) (w : WorldState) (i : Address) (o : Objective) (l : Option Locator) → AreSound s ms w → Made ms w.flood_calls i o l → IsCalled w i o l
is_called s ms w i o l k m =
    (m.among.0, m.call, m.among.1, m.among.2, seat_for s ms w i o l k m (stands w.seats ms m.call.node m.member k.count m.made_at))

-- ---- all floods

pub reads_called : (s : Setting) (ms : List Member) (w : WorldState) (reads : List FloodRead) → AreSound s ms w → All (ReadMade ms w.flood_calls) reads → All (IsReadCalled w) reads
reads_called s ms w reads k all =
    All-weaker (ReadMade ms w.flood_calls) (IsReadCalled w) (λ read. is_called s ms w read.initiator read.objective read.locator k) reads all

message_called : (s : Setting) (ms : List Member) (w : WorldState) (m : Message) → AreSound s ms w → PartsMade ms w.flood_calls m → IsMessageCalled w m
message_called s ms w (Flood session initiator ttl parts) k p =
    All-weaker (PartMade ms w.flood_calls initiator) (λ part. IsCalled w initiator part.objective part.locator) (λ part. is_called s ms w initiator part.objective part.locator k) parts p
message_called s ms w _ k p = tt

queued_called : (s : Setting) (ms : List Member) (w : WorldState) (q : Queued) → AreSound s ms w → QueuedMade ms w.flood_calls q → IsQueuedCalled w q
queued_called s ms w (datagram link to m) k p = message_called s ms w m k p.parts
queued_called s ms w (dial stream to) k p = tt
queued_called s ms w (send stream m) k p = tt

pub floods_real : (s : Setting) (ms : List Member) (w : WorldState) → AreSound s ms w → FloodsAreReal w
floods_real s ms w k = record { read = reads_called s ms w w.floods_read k k.made.read }

pub floods_on_the_way : (s : Setting) (ms : List Member) (w : WorldState) → AreSound s ms w → FloodsOnTheWay w
floods_on_the_way s ms w k = record {
  sent = All-weaker (SentMade ms w.flood_calls) (λ d. IsMessageCalled w d.message) (λ d p. message_called s ms w d.message k p.parts) w.datagrams k.made.sent;
  queued = λ node seat found.
      All-weaker (QueuedMade ms w.flood_calls) (IsQueuedCalled w) (λ q p. queued_called s ms w q k p) seat.core.queue (k.made.nodes node seat found).queue;
  cached = λ node seat found.
      All-weaker (EntryMade ms w.flood_calls) (λ entry. IsReadCalled w (read_of entry)) (λ entry. is_called s ms w _ _ _ k) seat.core.floods.entries
      (k.made.nodes node seat found).tables.entries;
}
