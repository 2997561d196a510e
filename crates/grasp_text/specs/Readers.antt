-- What a reader of words promises: it finds what the writer writes, and nothing else.
use Rattle.std.specs.Prelude.{◌≡◌, ℕ, List, [], ◌∷◌, ◌++◌, length, Option, Some, Ok, Err}
use Rattle.grasp_text.specs.Reading.{Parsed}
use Rattle.grasp_text.specs.Words.{joined}

-- a value's word is read as that value, and no other word is read as it
pub record IsWordReader {A : Type 0} (IsOne : A → Type 0) (spell : A → List ℕ) (read : List ℕ → Option A) : Type 0 where
  pub found : (a : A) → IsOne a → read (spell a) ≡ Some a
  pub only : (word : List ℕ) (a : A) → read word ≡ Some a → (word ≡ spell a) × IsOne a

-- the words of some value begin with these
pub record Begins {A : Type 0} (IsOne : A → Type 0) (spell : A → List (List ℕ)) (front : List (List ℕ)) : Type 0 where
  pub value : A
  pub more : List (List ℕ)
  pub whole : IsOne value
  pub words : spell value ≡ front ++ more

-- the words stop being the beginning of a value's words where so many bytes of the line are left: those before begin
-- some value's words, and with the next word they begin none's
pub record StopsAt {A : Type 0} (IsOne : A → Type 0) (spell : A → List (List ℕ)) (words : List (List ℕ)) (n : ℕ) : Type 0 where
  pub front : List (List ℕ)
  pub rest : List (List ℕ)
  pub parts : words ≡ front ++ rest
  pub left : n ≡ length (joined rest)
  pub before : Begins IsOne spell front
  pub none : (word : List ℕ) (others : List (List ℕ)) → rest ≡ word ∷ others → ¬ Begins IsOne spell (front ++ word ∷ [])

-- a value's words are read as that value, whatever stands behind them; nothing else is read; and what is refused is
-- refused where it stops being the beginning of a value's words
pub record IsReader {A : Type 0} (IsOne : A → Type 0) (spell : A → List (List ℕ)) (read : List (List ℕ) → Parsed A) : Type 0 where
  pub found : (a : A) (rest : List (List ℕ)) → IsOne a → read (spell a ++ rest) ≡ Ok (a, rest)
  pub only : (words : List (List ℕ)) (a : A) (rest : List (List ℕ)) → read words ≡ Ok (a, rest) → (words ≡ spell a ++ rest) × IsOne a
  pub unfit : (words : List (List ℕ)) (n : ℕ) → read words ≡ Err n → StopsAt IsOne spell words n
