-- The messages of acts: what a table tells of a session before something is said in it.
use Rattle.std.proofs.Common.{◌≡◌, ◌≤◌, ◌↔◌, ℕ, Bool, true, false, length, Some, refl, sym}
use Rattle.std.specs.Prelude.{IsTrue, nat_le}
use Rattle.std.proofs.lemmas.Bool.{le-leb, leb-true}
use Rattle.grasp_cbor.specs.DataItem.{DataItem}
use Rattle.grasp_types.specs.declared.message.Message.{Message}
use Rattle.grasp_types.specs.declared.objective.Objective.{Objective}
use Rattle.grasp_types.specs.declared.session.Handle.{Handle}
use Rattle.grasp_session.specs.Acts.{step_after, MessagesAreMade}
use Rattle.grasp_session.specs.Sessions.{Sessions, session_reply, last_reply, say_reply}
use Rattle.grasp_session.specs.Stands.{Stands}
use Rattle.grasp_session.specs.Transcript.{SayStep}
use Rattle.grasp_session.specs.declared.table.Table.{Table}
use Rattle.grasp_model_node.specs.Queue.{encoding, fits}

-- an answer that says whether so many bytes are within the limit
pub fits_as : (limit : ℕ) (m k : Message) (b : Bool) → IsTrue b ↔ (length (encoding k) ≤ limit) → m ≡ k → b ≡ fits limit m
fits_as limit m k b i e = rw e (by_answer b i) where
  by_answer : (c : Bool) → IsTrue c ↔ (length (encoding k) ≤ limit) → c ≡ nat_le (length (encoding k)) limit
  by_answer true j = sym (le-leb (length (encoding k)) limit (j.0 refl))
  by_answer false j = by_test (nat_le (length (encoding k)) limit) refl where
    by_test : (d : Bool) → nat_le (length (encoding k)) limit ≡ d → false ≡ d
    by_test true f = j.1 (leb-true (length (encoding k)) limit f)
    by_test false f = refl

-- a step's message by its parts
pub step_is : (t : Table) (z : Sessions) (h : Handle) (session : ℕ) (last : Objective) (value : DataItem) → MessagesAreMade → Stands t z
    → Some session ≡ session_reply z h → Some last ≡ last_reply z h → say_reply z h (SayStep value) ≡ step_after session last value
step_is t z h session last value law st a b = (law t z h session st (sym a)).step last value (sym b)
