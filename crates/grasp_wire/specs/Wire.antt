-- Which bytes are a message (RFC 8990, section 2.8), and which are several, one after the other.
use Rattle.std.specs.Prelude.{◌≡◌, ◌≤◌, ℕ, List, [], ◌∷◌, ◌++◌, length}
use Rattle.grasp_cbor.specs.Encodes.{Encodes}
use Rattle.grasp_types.specs.declared.message.Message.{Message}
use Rattle.grasp_types.specs.Message.{item_of, IsMessage}

-- the bytes are an encoding of the message's item, of any width of its heads, and not more than the limit
pub record IsWireForm (message : Message) (bytes : List ℕ) (limit : ℕ) : Type 0 where
  pub is_message : IsMessage message
  pub encodes : Encodes (item_of message) bytes
  pub fits : length bytes ≤ limit

-- the bytes are wire forms of these messages, joined in their order
abbrev pub AreWireForms : List Message → List ℕ → ℕ → Type 0
AreWireForms [] bytes limit = bytes ≡ []
AreWireForms (message ∷ messages) bytes limit = (front rest : List ℕ)
    × IsWireForm message front limit × AreWireForms messages rest limit × (bytes ≡ front ++ rest)
