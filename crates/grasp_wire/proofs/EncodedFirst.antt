-- Joined encodings come first.
use Rattle.std.proofs.Common.{◌<◌, ◌^◌, ℕ, suc, List, [], ◌∷◌, ◌++◌, ◌≡◌, refl, arith}
use Rattle.std.specs.Prelude.{All}
use Rattle.grasp_cbor.specs.Shortest.{shortest}
use Rattle.grasp_types.specs.Message.{item_of}
use Rattle.grasp_types.specs.declared.message.Message.{Message}
use Rattle.grasp_wire.specs.Wire.{IsWireForm, AreWireForms}
use Rattle.grasp_wire.specs.Stream.{Splits}
use Rattle.grasp_wire.specs.Laws.{encoded, IsSendable}
use Rattle.grasp_wire.proofs.Joins.{joined_first}
use Rattle.grasp_wire.proofs.ShortestForm.{shortest_form}

pub first_sendable : (limit : ℕ) (m : Message) (ms : List Message) → All (IsSendable limit) (m ∷ ms) → IsSendable limit m
first_sendable limit m ms h = h 0 m (omega arith)

pub others_sendable : (limit : ℕ) (m : Message) (ms : List Message) → All (IsSendable limit) (m ∷ ms) → All (IsSendable limit) ms
others_sendable limit m ms h k d lt = h (suc k) d (omega arith)

pub form_of : (limit : ℕ) (m : Message) → limit < 2 ^ 64 → IsSendable limit m → IsWireForm m (shortest (item_of m)) limit
form_of limit m l h = shortest_form m limit l h.0 h.1

-- joined encodings are wire forms
forms_of : (limit : ℕ) (ms : List Message) → limit < 2 ^ 64 → All (IsSendable limit) ms → AreWireForms ms (encoded ms) limit
forms_of limit [] l h = refl
forms_of limit (m ∷ ms) l h = (shortest (item_of m), encoded ms, form_of limit m l (first_sendable limit m ms h), forms_of limit ms l (others_sendable limit m ms h), refl)

pub encoded_first : (messages others : List Message) (more rest : List ℕ) (limit : ℕ) → limit < 2 ^ 64 → All (IsSendable limit) messages
    → Splits (encoded messages ++ more) limit others rest → (last : List Message) × (others ≡ messages ++ last)
encoded_first messages others more rest limit l h s =
    let j = joined_first messages others (encoded messages) s.front more rest limit (forms_of limit messages l h) s.forms s.parts s.no_more in
    (j.more, j.all)
