-- What is spelled straight from bytes.
use Rattle.std.specs.Prelude.{◌≡◌, ◌+◌, ◌<◌, ◌≤◌, ◌^◌, ℕ, List, [], ◌∷◌, ◌++◌, length, take, map, Option, IfSome, All, option_map, decimal}
use Rattle.grasp_cbor.specs.DataItem.{DataItem, unsigned}
use Rattle.grasp_cbor.specs.Leading.{Leads}
use Rattle.grasp_text.specs.Line.{or_dash, value_word, objective_words, optional_objective_words, answer_words, line_of}
use Rattle.grasp_text.specs.Words.{spaced}
use Rattle.grasp_types.specs.Message.{item_of, answer_items, IsAnswer, IsMessage}
use Rattle.grasp_types.specs.Objective.{optional, objective_item, IsValue, IsObjective}
use Rattle.grasp_types.specs.declared.message.Answer.{Answer}
use Rattle.grasp_types.specs.declared.message.Message.{Message}
use Rattle.grasp_types.specs.declared.objective.Objective.{Objective}
use Rattle.grasp_wire.specs.Direct.{LeadAll, EndsArray, EndsKind}
use Rattle.grasp_wire.specs.Wire.{IsWireForm}

-- a message leads the bytes, and its line was appended
pub record SpellsLine (bytes rest old new : List ℕ) : Type 0 where
  pub message : Message
  pub leads : Leads (item_of message) bytes rest
  pub is_message : IsMessage message
  pub spelled : new ≡ old ++ line_of message

-- a message of so many bytes begins the bytes, of which it may have so many, and this is its line and a line feed
pub record ShowsFront (limit : ℕ) (bytes : List ℕ) (used : ℕ) (line : List ℕ) : Type 0 where
  pub message : Message
  pub form : IsWireForm message (take used bytes) limit
  pub inside : used ≤ length bytes
  pub line_is : line ≡ line_of message ++ 10 ∷ []

-- Inside: some value in its range leads the bytes, and its words were appended, each behind a blank
pub record Spells {X : Type 0} (item : X → DataItem) (is : X → Type 0) (words : X → List (List ℕ)) (bytes rest old new : List ℕ) : Type 0 where
  pub value : X
  pub leads : Leads (item value) bytes rest
  pub is_one : is value
  pub spelled : new ≡ old ++ spaced (words value)

-- Inside: the same, where the bytes end the value behind the head of an array of so many items
pub record SpellsArray {X : Type 0} (count : ℕ) (item : X → DataItem) (is : X → Type 0) (words : X → List (List ℕ)) (bytes rest old new : List ℕ) : Type 0 where
  pub value : X
  pub ends : EndsArray count (item value) bytes rest
  pub is_one : is value
  pub spelled : new ≡ old ++ spaced (words value)

-- Inside: the same, behind the head of the array and this number
pub record SpellsKind {X : Type 0} (count kind : ℕ) (item : X → DataItem) (is : X → Type 0) (words : X → List (List ℕ))
    (bytes rest old new : List ℕ) : Type 0 where
  pub value : X
  pub ends : EndsKind count kind (item value) bytes rest
  pub is_one : is value
  pub spelled : new ≡ old ++ spaced (words value)

-- Inside: so many values lead the bytes, one after another, and the words of all were appended
pub record SpellsMany {X : Type 0} (item : X → DataItem) (is : X → Type 0) (words : List X → List (List ℕ)) (count : ℕ)
    (bytes rest old new : List ℕ) : Type 0 where
  pub values : List X
  pub lead : LeadAll (map item values) bytes rest
  pub each : All is values
  pub counted : length values ≡ count
  pub spelled : new ≡ old ++ spaced (words values)

-- Inside: the last value of an array of so many parts, of which so many stand before it, or none where the array ends there
pub record SpellsLast (count before : ℕ) (bytes rest old new : List ℕ) : Type 0 where
  pub value : Option DataItem
  pub leads : LeadAll (optional value) bytes rest
  pub counts : count ≡ length (optional value) + before
  pub is_one : IfSome value IsValue
  pub spelled : new ≡ old ++ spaced (or_dash value_word value ∷ [])

-- Inside: the last objective of such an array, or nothing
pub record SpellsLastObjective (count before : ℕ) (bytes rest old new : List ℕ) : Type 0 where
  pub value : Option Objective
  pub leads : LeadAll (optional (option_map objective_item value)) bytes rest
  pub counts : count ≡ length (optional (option_map objective_item value)) + before
  pub is_one : IfSome value IsObjective
  pub spelled : new ≡ old ++ spaced (optional_objective_words value)

-- Inside: an answer of so many parts
pub record SpellsAnswer (count : ℕ) (bytes rest old new : List ℕ) : Type 0 where
  pub value : Answer
  pub lead : LeadAll (answer_items value) bytes rest
  pub counted : length (answer_items value) ≡ count
  pub is_one : IsAnswer value
  pub spelled : new ≡ old ++ spaced (answer_words value)

-- Inside: the session and the objective of a message of so many parts
pub record SpellsTold (count : ℕ) (bytes rest old new : List ℕ) : Type 0 where
  pub session : ℕ
  pub objective : Objective
  pub lead : LeadAll (unsigned session ∷ objective_item objective ∷ []) bytes rest
  pub counts : count ≡ 3
  pub few : session < 2 ^ 32
  pub whole : IsObjective objective
  pub spelled : new ≡ old ++ spaced (decimal session ∷ objective_words objective)

-- Inside: behind the head of an array of so many items and this number, the bytes end a message, and its line was appended
pub record EndsLine (count kind : ℕ) (bytes rest old new : List ℕ) : Type 0 where
  pub message : Message
  pub ends : EndsKind count kind (item_of message) bytes rest
  pub is_message : IsMessage message
  pub spelled : new ≡ old ++ line_of message
