use Rattle.std.proofs.Common.{◌≡◌, ℕ, zero, suc, ◌+◌, ◌<◌, ◌≤◌, List, [], ◌∷◌, length, get_or, Some, None, sym, ap, ◌∙◌, arith}
use Rattle.std.specs.Prelude.{codes}
use Rattle.std.proofs.lemmas.Grind.{same_number_lists}
use Rattle.grasp_text.specs.Grammar.{name_of}
use Rattle.grasp_text.specs.declared.names.MessageName.{MessageName}
use Rattle.grasp_text.specs.declared.names.MessageName.TheVariants.{Noop, Discovery, Response, RequestNegotiation, RequestSynchronization, Negotiate, Wait, Synch, Flood, Invalid}
use Rattle.grasp_text.proofs.NumberWords.{is_none}
use Rattle.grasp_text.proofs.SpelledWords.{name_word, name_exact, name_only}
use Rattle.grasp_text.proofs.names.message_name.Goals as goal

-- from the byte i on these bytes stand in the word
abbrev Stand : List ℕ → ℕ → List ℕ → Type 0
Stand word i [] = Unit {0}
Stand word i (b ∷ bytes) = (get_or word i 0 ≡ b) × Stand word (suc i) bytes

byte_at : (word : List ℕ) (i : ℕ) (bytes : List ℕ) → Stand word i bytes → (k : ℕ) → k < length bytes → get_or word (i + k) 0 ≡ get_or bytes k 0
byte_at word i [] s k lt = absurd (omega arith)
byte_at word i (b ∷ bytes) s zero lt = let e : i + 0 ≡ i = omega arith in ap (λ (j : ℕ). get_or word j 0) e ∙ s.0
byte_at word i (b ∷ bytes) s (suc k) lt = let e : i + suc k ≡ suc i + k = omega arith in ap (λ (j : ℕ). get_or word j 0) e ∙ byte_at word (suc i) bytes s.1 k (omega arith)

-- a word of a name's length and bytes is that name's
named : (word : List ℕ) (name : MessageName) → length word ≡ length (name_word name) → Stand word 0 (name_word name) → Some name ≡ name_of word
named word name long stand =
    let at : (k : ℕ) → k < length word → get_or word k 0 ≡ get_or (name_word name) k 0 = λ k lt. let e : k ≡ 0 + k = omega arith in ap (λ (j : ℕ). get_or word j 0) e ∙ byte_at word 0 (name_word name) stand k (omega arith) in
    sym (name_exact.found name word (record { spelled = same_number_lists word (name_word name) long at }))

-- four names have nine bytes or more
no_long_name : (word : List ℕ) → 9 ≤ length word → ¬ (word ≡ codes "discovery") → ¬ (word ≡ codes "negotiate") → ¬ (word ≡ codes "request-neg") → ¬ (word ≡ codes "request-syn") → None ≡ name_of word
no_long_name word long discovery negotiate neg syn = sym (is_none (name_of word) (λ name e. differs name (name_only word name e)))
  where
    differs : (name : MessageName) → ¬ (word ≡ name_word name)
    differs Discovery e = discovery e
    differs RequestNegotiation e = neg e
    differs RequestSynchronization e = syn e
    differs Negotiate e = negotiate e
    differs _ e = omega (arith, ap length e)

-- words of other lengths, or with another byte at this place, differ
other_length : (word expected : List ℕ) → ¬ (length word ≡ length expected) → ¬ (word ≡ expected)
other_length word expected h e = h (ap length e)

other_byte : (word expected : List ℕ) (i : ℕ) → ¬ (get_or word i 0 ≡ get_or expected i 0) → ¬ (word ≡ expected)
other_byte word expected i h e = h (ap (λ (w : List ℕ). get_or w i 0) e)

pub returns-in-noop : goal.returns-in-noop
returns-in-noop c = named c.args.word.now Noop (omega arith) assumption

pub returns-in-wait : goal.returns-in-wait
returns-in-wait c = named c.args.word.now Wait (omega arith) assumption

pub returns-in-synch : goal.returns-in-synch
returns-in-synch c = named c.args.word.now Synch (omega arith) assumption

pub returns-in-flood : goal.returns-in-flood
returns-in-flood c = named c.args.word.now Flood (omega arith) assumption

pub returns-in-invalid : goal.returns-in-invalid
returns-in-invalid c = named c.args.word.now Invalid (omega arith) assumption

pub returns-in-response : goal.returns-in-response
returns-in-response c = named c.args.word.now Response (omega arith) assumption

pub returns-in-discovery : goal.returns-in-discovery
returns-in-discovery c = named c.args.word.now Discovery (omega arith) assumption

pub returns-in-negotiate : goal.returns-in-negotiate
returns-in-negotiate c = named c.args.word.now Negotiate (omega arith) assumption

pub returns-in-114 : goal.returns-in-114
returns-in-114 c = named c.args.word.now RequestNegotiation (omega arith) assumption

pub returns-in-114-2 : goal.returns-in-114-2
returns-in-114-2 c = named c.args.word.now RequestSynchronization (omega arith) assumption

pub returns-in_default-51 : goal.returns-in_default-51
returns-in_default-51 c =
    let word : List ℕ = c.args.word.now in
    no_long_name word (omega arith) (other_byte word (codes "discovery") 0 (λ e. omega arith)) (other_byte word (codes "negotiate") 2 (λ e. omega arith))
    (other_length word (codes "request-neg") (λ e. omega arith)) (other_length word (codes "request-syn") (λ e. omega arith))

pub returns-in_default-55 : goal.returns-in_default-55
returns-in_default-55 c =
    let word : List ℕ = c.args.word.now in
    no_long_name word (omega arith) (other_length word (codes "discovery") (λ e. omega arith)) (other_length word (codes "negotiate") (λ e. omega arith))
    (other_byte word (codes "request-neg") 10 (λ e. omega arith)) (other_byte word (codes "request-syn") 9 (λ e. omega arith))
