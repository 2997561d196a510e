-- Words with values, one after another.
use Rattle.std.proofs.Common.{◌≡◌, ℕ, List, [], ◌∷◌, length, Option, Some, None, Ok, refl, sym, ap, ◌∙◌}
use Rattle.grasp_text.specs.Grammar.{ending}
use Rattle.grasp_text.specs.Readers.{IsWordReader}
use Rattle.grasp_text.specs.Reading.{Parsed, ◌>>=◌, or_unfit, word_at}
use Rattle.grasp_text.specs.Words.{joined}
use Rattle.grasp_text.proofs.Lawful.{ok_is}

-- a word was taken, and then the rest was read
pub record Taken {A B : Type 0} (IsOne : A → Type 0) (spell : A → List ℕ) (next : A × List (List ℕ) → Parsed B) (ws : List (List ℕ)) (x : B × List (List ℕ)) : Type 0 where
  pub first : A
  pub rest : List (List ℕ)
  pub is : IsOne first
  pub parts : ws ≡ spell first ∷ rest
  pub more : next (first, rest) ≡ Ok x

taken_at : {A B : Type 0} (IsOne : A → Type 0) (spell : A → List ℕ) (read : List ℕ → Option A) (next : A × List (List ℕ) → Parsed B) (w : List ℕ) (ws : List (List ℕ)) (o : Option A) (x : B × List (List ℕ)) → IsWordReader IsOne spell read → read w ≡ o → (or_unfit ws (length (joined (w ∷ ws))) o >>= next) ≡ Ok x → Taken IsOne spell next (w ∷ ws) x
taken_at IsOne spell read next w ws None x R r e = absurd cc
taken_at IsOne spell read next w ws (Some a) x R r e = let h = R.only w a r in record { first = a; rest = ws; is = h.1; parts = ap (λ (v : List ℕ). v ∷ ws) h.0; more = e }

pub taken : {A B : Type 0} {IsOne : A → Type 0} {spell : A → List ℕ} {read : List ℕ → Option A} → IsWordReader IsOne spell read → (next : A × List (List ℕ) → Parsed B) (ws : List (List ℕ)) (x : B × List (List ℕ)) → (word_at read ws >>= next) ≡ Ok x → Taken IsOne spell next ws x
taken R next [] x e = absurd cc
taken {IsOne = IsOne} {spell = spell} {read = read} R next (w ∷ ws) x e = taken_at IsOne spell read next w ws (read w) x R refl e

-- the words were over
pub record Ended {A : Type 0} (a : A) (ws : List (List ℕ)) (x : A × List (List ℕ)) : Type 0 where
  pub words : ws ≡ []
  pub value : x.0 ≡ a

pub ended : {A : Type 0} (a : A) (ws : List (List ℕ)) (x : A × List (List ℕ)) → ending a ws ≡ Ok x → Ended a ws x
ended {A = A} a [] x e = record { words = refl; value = ap (λ (y : A × List (List ℕ)). y.0) (sym (ok_is (a, []) x e)) }
ended a (w ∷ ws) x e = absurd cc

-- one word and the others
pub after : {us rest vs : List (List ℕ)} {w : List ℕ} → us ≡ w ∷ rest → rest ≡ vs → us ≡ w ∷ vs
after {w = w} p q = p ∙ ap (λ (t : List (List ℕ)). w ∷ t) q

-- the words spell this value, which is within its range
pub record Means {A : Type 0} (IsOne : A → Type 0) (spell : A → List (List ℕ)) (a : A) (ws : List (List ℕ)) : Type 0 where
  pub ranges : IsOne a
  pub spelled : ws ≡ spell a
