-- Laws on the lines of messages, and on their words.
use Rattle.std.specs.Prelude.{◌≡◌, ℕ, ◌<◌, ◌≤◌, ◌^◌, ◌⊎◌, List, [], ◌∷◌, IfSome, All, decimal}
use Rattle.std.specs.Str.{IsUtf8}
use Rattle.grasp_types.specs.Address.{IsAddress, IsLocator}
use Rattle.grasp_types.specs.Message.{IsMessage}
use Rattle.grasp_types.specs.Objective.{IsObjective, IsValue}
use Rattle.grasp_types.specs.declared.message.Message.{Message}
use Rattle.grasp_text.specs.Grammar.{objective_at, locator_at, optional_locator_at}
use Rattle.grasp_text.specs.Line.{address_word, text_word, value_word, or_dash, objective_words, locator_words, locator_or_none, message_words, line_of, IsLineOf, IsNoLine}
use Rattle.grasp_text.specs.Place.{IsPlace}
use Rattle.grasp_text.specs.Readers.{IsWordReader, IsReader}
use Rattle.grasp_text.specs.Reading.{word_at, maybe_of, number_of, text_of, value_of, address_of}
use Rattle.grasp_text.specs.Words.{words_of}

-- a line has at most one message
abbrev pub LinesHaveOneMessage : Type 0
LinesHaveOneMessage = (line : List ℕ) (a b : Message) → IsLineOf line a → IsLineOf line b → a ≡ b

-- the words of a message's line are the message's words
abbrev pub LinesAreTheirWords : Type 0
LinesAreTheirWords = (message : Message) → IsMessage message → words_of (line_of message) ≡ message_words message

-- a blank or a visible character of ASCII: 20 to 7e
abbrev pub IsPrintable : ℕ → Type 0
IsPrintable b = (32 ≤ b) × (b ≤ 126)

-- a message's line is made of such alone
abbrev pub LinesArePrintable : Type 0
LinesArePrintable = (message : Message) → IsMessage message → All IsPrintable (line_of message)

-- a line goes wrong at one place at most
abbrev pub LinesHaveOnePlace : Type 0
LinesHaveOnePlace = (line : List ℕ) (a b : ℕ) → IsPlace line a → IsPlace line b → a ≡ b

-- some message has the line
pub record HasMessage (line : List ℕ) : Type 0 where
  pub message : Message
  pub is_line : IsLineOf line message

-- no message has the line, and it goes wrong at this place and no other
pub record GoesWrong (line : List ℕ) : Type 0 where
  pub at : ℕ
  pub none : IsNoLine line
  pub place : IsPlace line at
  pub only : (other : ℕ) → IsPlace line other → other ≡ at

-- every line is a message's, or goes wrong at exactly one place
abbrev pub LinesAreMessagesOrBad : Type 0
LinesAreMessagesOrBad = (line : List ℕ) → HasMessage line ⊎ GoesWrong line

-- a number's word, and no other, is read as it
abbrev pub NumbersAreRead : Type 0
NumbersAreRead = (most : ℕ) → most < 2 ^ 64 → IsWordReader (λ n. n ≤ most) decimal (number_of most)

-- the word of a text, a value or an address, and no other, is read as it
abbrev pub TextsAreRead : Type 0
TextsAreRead = IsWordReader IsUtf8 text_word text_of

abbrev pub ValuesAreRead : Type 0
ValuesAreRead = IsWordReader IsValue value_word value_of

abbrev pub AddressesAreRead : Type 0
AddressesAreRead = IsWordReader IsAddress address_word address_of

-- in front of other words, the word of a number, a text, a value or an address is taken as it, no other word is, and the rest stays
abbrev pub NumbersAreTaken : Type 0
NumbersAreTaken = (most : ℕ) → most < 2 ^ 64 → IsReader (λ n. n ≤ most) (λ n. decimal n ∷ []) (word_at (number_of most))

abbrev pub TextsAreTaken : Type 0
TextsAreTaken = IsReader IsUtf8 (λ t. text_word t ∷ []) (word_at text_of)

abbrev pub ValuesAreTaken : Type 0
ValuesAreTaken = IsReader IsValue (λ v. value_word v ∷ []) (word_at value_of)

abbrev pub OptionalValuesAreTaken : Type 0
OptionalValuesAreTaken = IsReader (λ v. IfSome v IsValue) (λ v. or_dash value_word v ∷ []) (word_at (maybe_of value_of))

abbrev pub AddressesAreTaken : Type 0
AddressesAreTaken = IsReader IsAddress (λ a. address_word a ∷ []) (word_at address_of)

-- an objective's words, and no others, are read as it
abbrev pub ObjectivesAreRead : Type 0
ObjectivesAreRead = IsReader IsObjective objective_words objective_at

-- the words of a locator, or of one that may be absent, and no others, are read as it
abbrev pub LocatorsAreRead : Type 0
LocatorsAreRead = IsReader IsLocator locator_words locator_at

abbrev pub OptionalLocatorsAreRead : Type 0
OptionalLocatorsAreRead = IsReader (λ l. IfSome l IsLocator) locator_or_none optional_locator_at
