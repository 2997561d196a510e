-- Lines behind lines.
use Rattle.std.proofs.Common.{◌≡◌, ℕ, ◌+◌, ◌<◌, ◌≤◌, suc, add-one, get_or, List, [], ◌∷◌, ◌++◌, refl, sym, ap, ◌∙◌, append_assoc, length, take, map}
use Rattle.std.proofs.lemmas.List.{append-nil, take_more, take_all}
use Rattle.std.proofs.lemmas.Grind.{replicate_next}
use Rattle.std.specs.Prelude.{decimal, replicate}
use Rattle.grasp_text.specs.Words.{spaced}
use Rattle.grasp_text.proofs.Pushed.{some_pushed}
use Rattle.grasp_script_draws.specs.Generator.{line, lines_text}

-- ---- one line

pub one_line : (l : List ℕ) → l ++ 10 ∷ [] ≡ lines_text (l ∷ [])
unfolding lines_text
one_line l = refl

-- a word, words behind it, and the line's end
pub line_pushed : (old middle later new word : List ℕ) (words : List (List ℕ)) → middle ≡ old ++ word → later ≡ middle ++ spaced words → new ≡ later ++ 10 ∷ []
    → new ≡ old ++ lines_text (line word words ∷ [])
line_pushed old middle later new word words p q r =
    r
    ∙ ap (λ (x : List ℕ). x ++ 10 ∷ []) (q ∙ ap (λ (x : List ℕ). x ++ spaced words) p ∙ append_assoc old word (spaced words))
    ∙ append_assoc old (word ++ spaced words) (10 ∷ [])
    ∙ ap (λ (x : List ℕ). old ++ x) (one_line (word ++ spaced words))

-- ---- numbers of a line

map_append : (xs ys : List ℕ) → map decimal (xs ++ ys) ≡ map decimal xs ++ map decimal ys
map_append [] ys = refl
map_append (x ∷ xs) ys = ap (λ (t : List (List ℕ)). decimal x ∷ t) (map_append xs ys)

pub no_numbers : (old : List ℕ) (xs : List ℕ) → old ≡ old ++ spaced (map decimal (take 0 xs))
no_numbers old xs = sym (append-nil old)

-- ---- lines behind lines

lines_append : (xs ys : List (List ℕ)) → lines_text (xs ++ ys) ≡ lines_text xs ++ lines_text ys
unfolding lines_text
lines_append [] ys = refl
lines_append (x ∷ xs) ys = ap (λ (t : List ℕ). x ++ 10 ∷ t) (lines_append xs ys) ∙ sym (append_assoc x (10 ∷ lines_text xs) (lines_text ys))

pub lines_pushed : (old middle new : List ℕ) (xs ys : List (List ℕ)) → middle ≡ old ++ lines_text xs → new ≡ middle ++ lines_text ys → new ≡ old ++ lines_text (xs ++ ys)
lines_pushed old middle new xs ys p q =
    q
    ∙ ap (λ (x : List ℕ). x ++ lines_text ys) p
    ∙ append_assoc old (lines_text xs) (lines_text ys)
    ∙ ap (λ (x : List ℕ). old ++ x) (sym (lines_append xs ys))

-- ---- the numbers of a line so far

take_next : (xs : List ℕ) (i : ℕ) → i < length xs → take (i + 1) xs ≡ take i xs ++ get_or xs i 0 ∷ []
take_next xs i lt = take_more xs i 0 lt

pub numbers_step : (xs : List ℕ) (i : ℕ) (old out new : List ℕ) → i < length xs → out ≡ old ++ spaced (map decimal (take i xs)) → new ≡ out ++ spaced (decimal (get_or xs i 0) ∷ [])
    → new ≡ old ++ spaced (map decimal (take (i + 1) xs))
numbers_step xs i old out new lt p q =
    some_pushed old out new (map decimal (take i xs)) (decimal (get_or xs i 0) ∷ []) p q
    ∙ ap (λ (t : List (List ℕ)). old ++ spaced t) (sym (ap (map decimal) (take_next xs i lt) ∙ map_append (take i xs) (get_or xs i 0 ∷ [])))

pub numbers_done : (xs : List ℕ) (i : ℕ) (old new : List ℕ) → length xs ≤ i → new ≡ old ++ spaced (map decimal (take i xs)) → new ≡ old ++ spaced (map decimal xs)
numbers_done xs i old new le e = e ∙ ap (λ (t : List ℕ). old ++ spaced (map decimal t)) (take_all i xs le)

-- ---- lines so far

pub none_pushed : (old : List ℕ) → old ≡ old ++ lines_text []
unfolding lines_text
none_pushed old = sym (append-nil old)

-- one more of the same lines
pub same_pushed : (n : ℕ) (old middle new l : List ℕ) → middle ≡ old ++ lines_text (replicate n l) → new ≡ middle ++ lines_text (l ∷ []) → new ≡ old ++ lines_text (replicate (n + 1) l)
same_pushed n old middle new l p q = lines_pushed old middle new (replicate n l) (l ∷ []) p q ∙ ap (λ (x : List (List ℕ)). old ++ lines_text x) (sym (replicate_next n l))

-- the next line of lines that grow at their end
pub next_pushed : (lines : ℕ → List (List ℕ)) (n : ℕ) (more : List (List ℕ)) (old middle new : List ℕ) → lines (suc n) ≡ lines n ++ more → middle ≡ old ++ lines_text (lines n)
    → new ≡ middle ++ lines_text more → new ≡ old ++ lines_text (lines (n + 1))
next_pushed lines n more old middle new e p q =
    lines_pushed old middle new (lines n) more p q ∙ ap (λ (x : List (List ℕ)). old ++ lines_text x) (sym e ∙ ap lines (sym (add-one n)))
