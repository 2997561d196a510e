-- What is packed straight from lines.
use Rattle.std.specs.Prelude.{◌≡◌, ◌*◌, ◌≤◌, ℕ, List, [], ◌∷◌, ◌++◌, length, take, map, All, IfSome, option_map, decimal}
use Rattle.std.specs.Str.{IsUtf8}
use Rattle.hex.specs.Hex.{IsBytes, encode_lower}
use Rattle.grasp_cbor.specs.DataItem.{DataItem, unsigned, text_string, array_of, data_items}
use Rattle.grasp_cbor.specs.Shortest.{shortest, shortest_items}
use Rattle.grasp_text.specs.Line.{IsLineOf, all_escaped, line_of, or_dash, value_word, objective_words, optional_objective_words}
use Rattle.grasp_text.specs.Line.{all_locator_words, answer_words, all_flood_part_words}
use Rattle.grasp_text.specs.Words.{spaced}
use Rattle.grasp_types.specs.Address.{locator_item, IsLocator}
use Rattle.grasp_types.specs.Message.{item_of, answer_items, flood_part_item, IsAnswer, IsFloodPart, IsMessage}
use Rattle.grasp_types.specs.Objective.{optional, objective_item, IsObjective, IsValue}
use Rattle.grasp_types.specs.declared.address.Locator.{Locator}
use Rattle.grasp_types.specs.declared.flood.FloodPart.{FloodPart}
use Rattle.grasp_types.specs.declared.message.Message.{Message}
use Rattle.grasp_types.specs.declared.objective.Objective.{Objective}

-- the line of a message begins the text, and the message's shortest encoding was appended
pub record PacksLine (text rest old new : List ℕ) : Type 0 where
  pub message : Message
  pub is_message : IsMessage message
  pub read : text ≡ line_of message ++ rest
  pub packed : new ≡ old ++ shortest (item_of message)

-- the line is that of a message whose shortest encoding has at most so many bytes, and this is it
pub record IsPackedLine (limit : ℕ) (line bytes : List ℕ) : Type 0 where
  pub message : Message
  pub is_line : IsLineOf line message
  pub packed : bytes ≡ shortest (item_of message)
  pub fits : length (shortest (item_of message)) ≤ limit

-- Inside: the words of some value in its range begin the line, each behind a blank, and the shortest encodings of its items were appended
pub record Packs {X : Type 0} (items : X → List DataItem) (is : X → Type 0) (words : X → List (List ℕ)) (line rest old new : List ℕ) : Type 0 where
  pub value : X
  pub is_one : is value
  pub read : line ≡ spaced (words value) ++ rest
  pub packed : new ≡ old ++ shortest_items (data_items (items value))

-- Inside: a value or none, of so many parts
abbrev pub PacksValue : ℕ → List ℕ → List ℕ → List ℕ → List ℕ → Type 0
PacksValue count line rest old new =
    Packs optional (λ v. IfSome v IsValue × (length (optional v) ≡ count)) (λ v. or_dash value_word v ∷ []) line rest old new

-- Inside: an objective or none, of so many parts
abbrev pub PacksObjective : ℕ → List ℕ → List ℕ → List ℕ → List ℕ → Type 0
PacksObjective count line rest old new =
    Packs (λ o. optional (option_map objective_item o)) (λ o. IfSome o IsObjective × (length (optional (option_map objective_item o)) ≡ count))
    optional_objective_words line rest old new

-- Inside: the session and the objective of a message of this kind
abbrev pub PacksTold : ℕ → List ℕ → List ℕ → List ℕ → List ℕ → Type 0
PacksTold kind line rest old new = Packs {X = ℕ × Objective} (λ x. array_of (unsigned kind ∷ unsigned x.0 ∷ objective_item x.1 ∷ []) ∷ [])
    (λ x. (x.0 ≤ 4294967295) × IsObjective x.1) (λ x. decimal x.0 ∷ objective_words x.1) line rest old new

-- Inside: so many locators, one or more
abbrev pub PacksLocators : ℕ → List ℕ → List ℕ → List ℕ → List ℕ → Type 0
PacksLocators count line rest old new =
    Packs {X = List Locator} (λ ls. map locator_item ls) (λ ls. All IsLocator ls × (length ls ≡ count)) all_locator_words line rest old new

-- Inside: an answer of so many parts
abbrev pub PacksAnswer : ℕ → List ℕ → List ℕ → List ℕ → List ℕ → Type 0
PacksAnswer count line rest old new = Packs answer_items (λ a. IsAnswer a × (length (answer_items a) ≡ count)) answer_words line rest old new

-- Inside: so many parts of a flood
abbrev pub PacksParts : ℕ → List ℕ → List ℕ → List ℕ → List ℕ → Type 0
PacksParts count line rest old new =
    Packs {X = List FloodPart} (λ ps. map flood_part_item ps) (λ ps. All IsFloodPart ps × (length ps ≡ count)) all_flood_part_words line rest old new

-- Inside: these bytes are a text so escaped, and then the rest
pub record PacksText (escaped rest old new : List ℕ) : Type 0 where
  pub text : List ℕ
  pub is_text : IsUtf8 text
  pub read : escaped ≡ all_escaped text ++ rest
  pub packed : new ≡ old ++ shortest (text_string text)

-- Inside: so many bytes so escaped, and then the rest; the bytes were appended
pub record Unescapes (count : ℕ) (escaped rest old new : List ℕ) : Type 0 where
  pub text : List ℕ
  pub counted : length text ≡ count
  pub read : escaped ≡ all_escaped text ++ rest
  pub appended : new ≡ old ++ text

-- Inside: the digits of a value's shortest encoding, and then the rest; the encoding was appended
pub record PacksDigits (digits rest old new : List ℕ) : Type 0 where
  pub value : DataItem
  pub is_value : IsValue value
  pub read : digits ≡ encode_lower (shortest value) ++ rest
  pub packed : new ≡ old ++ shortest value

-- Inside: the bytes of so many pairs of digits at the front were appended
pub record Unhexes (digits : List ℕ) (count : ℕ) (old new : List ℕ) : Type 0 where
  pub bytes : List ℕ
  pub fits : IsBytes bytes
  pub counted : length bytes ≡ count
  pub inside : 2 * count ≤ length digits
  pub digits_are : take (2 * count) digits ≡ encode_lower bytes
  pub appended : new ≡ old ++ bytes
