-- The words of a line: the parts between single blanks.
use Rattle.std.specs.Prelude.{◌≡◌, ℕ, List, [], ◌∷◌, ◌++◌, ◌==◌, Option, Some, None, Bool, true, false}
use Rattle.std.specs.List.{AllByRecursion, slice_split, join_with_byte}
use Rattle.std.specs.Str.{bytes_eq}

-- the parts of a line between its blanks; an empty part is a word too, so the empty line has one word
abbrev pub words_of : List ℕ → List (List ℕ)
words_of line = slice_split (λ b. b == 32) line

-- the words with one blank between two of them
abbrev pub joined : List (List ℕ) → List ℕ
joined words = join_with_byte 32 words

-- each of the words behind a blank
abbrev pub spaced : List (List ℕ) → List ℕ
spaced [] = []
spaced (word ∷ words) = 32 ∷ (word ++ spaced words)

-- Inside: the words of what is left of a line, which has none left after its last word
abbrev pub words_left : Option (List ℕ) → List (List ℕ)
words_left None = []
words_left (Some rest) = words_of rest

-- no word is left
abbrev pub is_over : List (List ℕ) → Bool
is_over [] = true
is_over (word ∷ words) = false

-- there is a next word, and it is this one
abbrev pub is_next : List ℕ → List (List ℕ) → Bool
is_next expected [] = false
is_next expected (word ∷ words) = bytes_eq word expected

-- Inside: no blank is among the bytes
abbrev pub HasNoBlank : List ℕ → Type 0
HasNoBlank bytes = AllByRecursion (λ b. b == 32 ≡ false) bytes
