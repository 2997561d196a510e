-- What a node says to a peer of its own accord.
use Rattle.std.proofs.Common.{◌≡◌, ◌<◌, ◌≤◌, ◌+◌, ◌^◌, ℕ, nat_le, Bool, true, false, cond, not, ◌&&◌, ◌||◌, [], ◌∷◌, length, None, refl, sym}
use Rattle.std.specs.Bool.{Decides}
use Rattle.std.proofs.lemmas.Bool.{true≢false, leb-true, le-leb, leb-false, lt-leb, not-true}
use Rattle.std.proofs.lemmas.Bool.Decides.{Decides-and, Decides-like, not_from_Decides}
use Rattle.grasp_types.specs.declared.address.Locator.{Locator}
use Rattle.grasp_types.specs.declared.message.Message.{Message}
use Rattle.grasp_laws_node.specs.Means.{Fits}
use Rattle.grasp_model_node.specs.Hear.{shuts}
use Rattle.grasp_model_node.specs.Moves.{queue_up, dial_record, may_queue, answer, dial_with}
use Rattle.grasp_model_node.specs.Node.{NodeState}
use Rattle.grasp_model_node.specs.Queue.{dial, send, encoding, fits, has_room}
use Rattle.grasp_model_node.specs.Streams.{is_full, is_dialled_out, next_stream}
use Rattle.grasp_laws_hearing.specs.Answering.{IsAnswered, EndsWith, CanDial, IsDialled}

-- ---- tests

pub no_more : (a b : ℕ) → Decides (nat_le a b) (a ≤ b)
no_more a b = (leb-true a b, le-leb a b)

-- a bound that isn't reached
pub below : (a b : ℕ) → Decides (not (nat_le a b)) (b < a)
below a b = (λ e. leb-false a b (not-true (nat_le a b) e), λ h. of_false (nat_le a b) (lt-leb a b h)) where
  of_false : (t : Bool) → t ≡ false → not t ≡ true
  of_false true e = absurd (true≢false e)
  of_false false e = refl

pub fits_decides : (n : NodeState) (m : Message) (count : ℕ) → Decides (may_queue n m count) (Fits n m count)
fits_decides n m count =
    Decides-like (may_queue n m count) (λ p. record { bytes = p.0; room = p.1 }) (λ f. (f.bytes, f.room))
    (Decides-and (fits n.plan.limit m) (has_room n.queue count) (no_more (length (encoding m)) n.plan.limit) (no_more (length n.queue + count) 256))

-- neither of two
pub neither : {P Q : Type 0} (x y : Bool) → Decides (not x) P → Decides (not y) Q → Decides (not (x || y)) (P × Q)
neither true y d k = (λ e. absurd (true≢false (sym e)), λ h. d.1 h.0)
neither false y d k = (λ e. (d.0 refl, k.0 e), λ h. k.1 h.1)

pub dials_decide : (n : NodeState) → Decides (not (is_dialled_out n.streams)) (CanDial n)
dials_decide n =
    Decides-like (not (is_dialled_out n.streams)) (λ p. record { records = p.0; numbers = p.1 }) (λ c. (c.records, c.numbers))
    (neither (is_full n.streams) (nat_le (2 ^ 62) n.streams.dialled) (below 64 (length n.streams.records)) (below (2 ^ 62) n.streams.dialled))

-- ---- an answer

pub record Answers (n : NodeState) (stream : ℕ) (m : Message) (after : NodeState) : Type 0 where
  pub answer : IsAnswered n stream m after.queue
  pub rest : after ≡ record n { queue = after.queue }

pub answers : (n : NodeState) (stream : ℕ) (m : Message) → Answers n stream m (answer n stream m)
unfolding queue_up
answers n stream m = by (may_queue n m 1) (fits_decides n m 1) where
  by : (b : Bool) → Decides b (Fits n m 1) → Answers n stream m (cond b (queue_up n (send stream m ∷ [])) n)
  by true d = record { answer = record { said = λ f. refl; lost = λ no. absurd (no (d.0 refl)) }; rest = refl }
  by false d = record { answer = record { said = λ f. absurd (not_from_Decides false d refl f); lost = λ no. refl }; rest = refl }

pub ends_with : (n : NodeState) (stream : ℕ) (m : Message) → EndsWith n stream m (shuts (answer n stream m))
ends_with n stream m = let a = answers n stream m in record { answer = a.answer; rest = a.rest; shut = refl }

-- ---- a stream that is dialled

pub dialled : (n : NodeState) (to : Locator) (m : Message) → IsDialled n to m (dial_with n to m)
unfolding queue_up dial_record
dialled n to m =
    by (may_queue n m 2 && not (is_dialled_out n.streams))
    (Decides-and (may_queue n m 2) (not (is_dialled_out n.streams)) (fits_decides n m 2) (dials_decide n)) where
      by : (b : Bool) → Decides b (Fits n m 2 × CanDial n)
          → IsDialled n to m (cond b (dial_record (queue_up n (dial (next_stream n.streams) to ∷ send (next_stream n.streams) m ∷ [])) None) n)
      by true d = record { said = λ f c. refl; lost = λ no. absurd (no (d.0 refl)) }
      by false d = record { said = λ f c. absurd (not_from_Decides false d refl (f, c)); lost = λ no. refl }
