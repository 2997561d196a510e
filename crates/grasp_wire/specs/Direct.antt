-- Inside: what leads the bytes from which a message is read without making items.
use Rattle.std.specs.Prelude.{◌≡◌, ◌≤◌, ℕ, List, [], ◌∷◌, length, take}
use Rattle.grasp_cbor.specs.DataItem.{DataItem, unsigned}
use Rattle.grasp_cbor.specs.Encodes.{Encodes}
use Rattle.grasp_cbor.specs.Leading.{Leads, LeadsArray}
use Rattle.grasp_types.specs.Message.{item_of, IsMessage}
use Rattle.grasp_types.specs.declared.message.Message.{Message}

-- the bytes are encodings of these items, one after another, and then the rest
abbrev pub LeadAll : List DataItem → List ℕ → List ℕ → Type 0
LeadAll [] bytes rest = bytes ≡ rest
LeadAll (t ∷ ts) bytes rest = (middle : List ℕ) × Leads t bytes middle × LeadAll ts middle rest

-- behind the head of an array of so many items these bytes end the item, and then the rest follows
abbrev pub EndsArray : ℕ → DataItem → List ℕ → List ℕ → Type 0
EndsArray count item bytes rest = (whole : List ℕ) → LeadsArray count whole bytes → Leads item whole rest

-- behind the head of an array of so many items, and this number, these bytes end the item, and then the rest follows
abbrev pub EndsKind : ℕ → ℕ → DataItem → List ℕ → List ℕ → Type 0
EndsKind count kind item bytes rest = (whole middle : List ℕ) → LeadsArray count whole middle → Leads (unsigned kind) middle bytes → Leads item whole rest

-- the first so many bytes are an encoding of the message
pub record IsDirect (message : Message) (bytes : List ℕ) (used : ℕ) : Type 0 where
  pub is_message : IsMessage message
  pub encodes : Encodes (item_of message) (take used bytes)
  pub inside : used ≤ length bytes
