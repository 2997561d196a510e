-- Some words with a value, and then more.
use Rattle.std.proofs.Common.{◌≡◌, ℕ, List, [], ◌++◌, Ok, Err, refl, ap, ◌∙◌}
use Rattle.std.proofs.lemmas.List.{append-nil}
use Rattle.grasp_text.specs.Readers.{IsReader}
use Rattle.grasp_text.specs.Reading.{Parsed, ◌>>=◌}

-- a value's words were taken, and then the rest was read
pub record TakenWords {A B : Type 0} (IsOne : A → Type 0) (spell : A → List (List ℕ)) (next : A × List (List ℕ) → Parsed B) (ws : List (List ℕ)) (x : B × List (List ℕ)) : Type 0 where
  pub first : A
  pub rest : List (List ℕ)
  pub is : IsOne first
  pub parts : ws ≡ spell first ++ rest
  pub more : next (first, rest) ≡ Ok x

taken_at : {A B : Type 0} (IsOne : A → Type 0) (spell : A → List (List ℕ)) (read : List (List ℕ) → Parsed A) (next : A × List (List ℕ) → Parsed B) (ws : List (List ℕ)) (r : Parsed A) (x : B × List (List ℕ))
    → IsReader IsOne spell read → read ws ≡ r → (r >>= next) ≡ Ok x → TakenWords IsOne spell next ws x
taken_at IsOne spell read next ws (Err n) x R r e = absurd cc
taken_at IsOne spell read next ws (Ok a) x R r e = let h = R.only ws a.0 a.1 r in record { first = a.0; rest = a.1; is = h.1; parts = h.0; more = e }

pub taken_words : {A B : Type 0} {IsOne : A → Type 0} {spell : A → List (List ℕ)} {read : List (List ℕ) → Parsed A} → IsReader IsOne spell read
    → (next : A × List (List ℕ) → Parsed B) (ws : List (List ℕ)) (x : B × List (List ℕ)) → (read ws >>= next) ≡ Ok x → TakenWords IsOne spell next ws x
taken_words {IsOne = IsOne} {spell = spell} {read = read} R next ws x e = taken_at IsOne spell read next ws (read ws) x R refl e

-- they were all
pub at_end : {us rest : List (List ℕ)} (front : List (List ℕ)) → us ≡ front ++ rest → rest ≡ [] → us ≡ front
at_end front p q = p ∙ ap (λ t. front ++ t) q ∙ append-nil front

-- what a value was read before
pub record Read {A B : Type 0} (next : A × List (List ℕ) → Parsed B) (r : Parsed A) (x : B × List (List ℕ)) : Type 0 where
  pub first : A × List (List ℕ)
  pub is : r ≡ Ok first
  pub more : next first ≡ Ok x

pub was_read : {A B : Type 0} (next : A × List (List ℕ) → Parsed B) (r : Parsed A) (x : B × List (List ℕ)) → (r >>= next) ≡ Ok x → Read next r x
was_read next (Ok a) x e = record { first = a; is = refl; more = e }
was_read next (Err n) x e = absurd cc
