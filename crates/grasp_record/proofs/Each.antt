-- Values one after another, to the end, are read where their words are, and nowhere else.
use Rattle.std.proofs.Common.{◌≡◌, ℕ, zero, suc, ◌<◌, true, false, List, [], ◌∷◌, ◌++◌, length, Ok, Err, refl, sym, ap, ◌∙◌, append_assoc, arith, length-append}
use Rattle.std.specs.List.{AllByRecursion}
use Rattle.std.proofs.lemmas.List.{append-nil}
use Rattle.grasp_text.specs.Grammar.{many, until}
use Rattle.grasp_text.specs.Reading.{Parsed, ◌>>=◌, or_end}
use Rattle.grasp_text.specs.Words.{is_over}
use Rattle.grasp_text.proofs.Lawful.{ok_is}
use Rattle.grasp_text.proofs.Until.{IsLocal, until_step}
use Rattle.grasp_record.specs.Grammar.{each_step, each_at}
use Rattle.grasp_record.proofs.SomeWords.{IsExact}

or_more : {B : Type 0} (b : B) (p : List (List ℕ) → Parsed B) (ws : List (List ℕ)) → 0 < length ws → or_end b p ws ≡ p ws
or_more b p [] lt = absurd (omega arith)
or_more b p (w ∷ ws) lt = refl

-- one more was read, and then the others
abbrev pub goes_on : {A : Type 0} → (List A → List (List ℕ) → Parsed (List A)) → List A → Parsed A → Parsed (List A)
goes_on f before r = r >>= λ next. f (before ++ next.0 ∷ []) next.1

-- these were read behind those before
pub record OthersRead {A : Type 0} (IsOne : A → Type 0) (all : List A → List (List ℕ)) (before xs : List A) (ws rest : List (List ℕ)) : Type 0 where
  pub others : List A
  pub parts : xs ≡ before ++ others
  pub each : AllByRecursion IsOne others
  pub words : ws ≡ all others
  pub over : rest ≡ []

module _ {A : Type 0} (IsOne : A → Type 0) (spell : A → List (List ℕ)) (read : List (List ℕ) → Parsed A) (R : IsExact IsOne spell read) (long : (a : A) → 0 < length (spell a)) where
  -- ---- the steps of a loop that reads them, and what is made of them behind it

  pub each_shorter : (ws : List (List ℕ)) (a : A) (rest : List (List ℕ)) → read ws ≡ Ok (a, rest) → length rest < length ws
  each_shorter ws a rest e = let h = R.only ws a rest e in let more = long a in omega (arith, ap length h.0, length-append (spell a) rest)

  local_at : (f g : List A → List (List ℕ) → Parsed (List A)) (before : List A) (ws : List (List ℕ)) (r : Parsed A) → ((t : List A) (us : List (List ℕ)) → length us < length ws → f t us ≡ g t us) → read ws ≡ r → goes_on f before r ≡ goes_on g before r
  local_at f g before ws (Err n) same e = refl
  local_at f g before ws (Ok a) same e = same (before ++ a.0 ∷ []) a.1 (each_shorter ws a.0 a.1 e)

  local : IsLocal (each_step read)
  local f g before [] same = refl
  local f g before (w ∷ ws) same = local_at f g before (w ∷ ws) (read (w ∷ ws)) same refl

  again : (before : List A) (ws : List (List ℕ)) → each_at read before ws ≡ each_step read (each_at read) before ws
  again before ws = until_step (each_step read) local before ws

  module _ {B : Type 0} (made : Parsed (List A) → Parsed B) where
    -- no word is left
    pub each_over : (before : List A) (ws : List (List ℕ)) (total : Parsed B) → is_over ws ≡ true → made (each_at read before ws) ≡ total → total ≡ made (Ok (before, ws))
    each_over before [] total over e = sym e ∙ ap made (again before [])
    each_over before (w ∷ ws) total over e = absurd (let z = over in cc)

    -- one more is next
    pub each_next : (before : List A) (ws : List (List ℕ)) (total : Parsed B) → is_over ws ≡ false → made (each_at read before ws) ≡ total → total ≡ made (goes_on (each_at read) before (read ws))
    each_next before [] total over e = absurd (let z = over in cc)
    each_next before (w ∷ ws) total over e = sym e ∙ ap made (again before (w ∷ ws))

  -- ---- all their words

  module _ (all : List A → List (List ℕ)) (none : all [] ≡ []) (some : (a : A) (xs : List A) → all (a ∷ xs) ≡ spell a ++ all xs) where
    abbrev Rest : List A → List A → List (List ℕ) → List (List ℕ) → Type 0
    Rest before xs ws rest = OthersRead IsOne all before xs ws rest

    next_only : (f : List A → List (List ℕ) → Parsed (List A)) → ((before xs : List A) (ws rest : List (List ℕ)) → f before ws ≡ Ok (xs, rest) → Rest before xs ws rest) → (before xs : List A) (ws rest : List (List ℕ)) (r : Parsed A) → read ws ≡ r → goes_on f before r ≡ Ok (xs, rest) → Rest before xs ws rest
    next_only f later before xs ws rest (Err n) r e = absurd cc
    next_only f later before xs ws rest (Ok a) r e =
        let h = R.only ws a.0 a.1 r in
        let m = later (before ++ a.0 ∷ []) xs a.1 rest e in
        record {
          others = a.0 ∷ m.others;
          parts = m.parts ∙ append_assoc before (a.0 ∷ []) m.others;
          each = (h.1, m.each);
          words = h.0 ∙ ap (λ (t : List (List ℕ)). spell a.0 ++ t) m.words ∙ sym (some a.0 m.others);
          over = m.over;
        }

    many_only : (n : ℕ) (before xs : List A) (ws rest : List (List ℕ)) → many (each_step read) n before ws ≡ Ok (xs, rest) → Rest before xs ws rest
    unfolding many
    many_only zero before xs ws rest e = absurd cc
    many_only (suc n) before xs [] rest e =
        let pair : (before, []) ≡ (xs, rest) = ok_is (before, []) (xs, rest) e in
        record { others = []; parts = sym (ap (λ (y : List A × List (List ℕ)). y.0) pair) ∙ sym (append-nil before); each = tt; words = sym none; over = sym (ap (λ (y : List A × List (List ℕ)). y.1) pair) }
    many_only (suc n) before xs (w ∷ ws) rest e = next_only (many (each_step read) n) (many_only n) before xs (w ∷ ws) rest (read (w ∷ ws)) refl e

    pub each_only : (before xs : List A) (ws rest : List (List ℕ)) → each_at read before ws ≡ Ok (xs, rest) → Rest before xs ws rest
    unfolding until
    each_only before xs ws rest e = many_only (suc (length ws)) before xs ws rest e

    many_found : (n : ℕ) (before others : List A) → length (all others) < n → AllByRecursion IsOne others → many (each_step read) n before (all others) ≡ Ok (before ++ others, [])
    unfolding many
    many_found zero before others lt h = absurd (omega arith)
    many_found (suc n) before [] lt h = ap (each_step read (many (each_step read) n) before) none ∙ ap (λ (xs : List A). Ok (xs, [])) (sym (append-nil before))
    many_found (suc n) before (a ∷ xs) lt h =
        let more = long a in
        let whole = some a xs in
        let less : length (all xs) < n = omega (arith, ap length whole, length-append (spell a) (all xs)) in
        ap (each_step read (many (each_step read) n) before) whole
        ∙ or_more before (λ ws. goes_on (many (each_step read) n) before (read ws)) (spell a ++ all xs) (omega (arith, length-append (spell a) (all xs)))
        ∙ ap (goes_on (many (each_step read) n) before) (R.found a (all xs) h.0)
        ∙ many_found n (before ++ a ∷ []) xs less h.1
        ∙ ap (λ (ys : List A). Ok (ys, [])) (append_assoc before (a ∷ []) xs)

    pub each_found : (before others : List A) → AllByRecursion IsOne others → each_at read before (all others) ≡ Ok (before ++ others, [])
    unfolding until
    each_found before others h = many_found (suc (length (all others))) before others (omega arith) h
