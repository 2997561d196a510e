-- Words behind blanks, and words with blanks between them.
use Rattle.std.proofs.Common.{◌≡◌, ◌≢◌, ℕ, List, [], ◌∷◌, ◌++◌, Result, Ok, Err, sym, ◌∙◌}
use Rattle.std.specs.Prelude.{IfOk}
use Rattle.grasp_text.specs.Words.{joined, spaced}
use Rattle.grasp_text.proofs.Pushed.{joined_spaced}

-- a text that is words behind blanks begins with a blank, and behind that the words have blanks between them
behind_blank : (text rest : List ℕ) (words : List (List ℕ)) → text ≡ 32 ∷ rest → text ≡ spaced words → rest ≡ joined words
behind_blank text rest [] p q = absurd (let e : 32 ∷ rest ≡ [] = sym p ∙ q in cc)
behind_blank text rest (w ∷ words) p q =
    let e : 32 ∷ rest ≡ 32 ∷ (w ++ spaced words) = sym p ∙ q in
    let same : rest ≡ w ++ spaced words = cc in
    same ∙ sym (joined_spaced w words)

-- or it is empty
no_blank : (text : List ℕ) (words : List (List ℕ)) → ((rest : List ℕ) → text ≢ 32 ∷ rest) → text ≡ spaced words → text ≡ joined words
no_blank text [] none q = q
no_blank text (w ∷ words) none q = absurd (none (w ++ spaced words) q)

pub told_behind : {E : Type 0} (r : Result (List ℕ) E) (text rest : List ℕ) (words : List (List ℕ)) → IfOk r (λ out. out ≡ rest) → text ≡ 32 ∷ rest → text ≡ spaced words → IfOk r (λ out. out ≡ joined words)
told_behind (Ok out) text rest words is p q = is ∙ behind_blank text rest words p q
told_behind (Err e) text rest words is p q = tt

pub told_whole : {E : Type 0} (r : Result (List ℕ) E) (text : List ℕ) (words : List (List ℕ)) → IfOk r (λ out. out ≡ text) → ((rest : List ℕ) → text ≢ 32 ∷ rest) → text ≡ spaced words → IfOk r (λ out. out ≡ joined words)
told_whole (Ok out) text words is none q = is ∙ no_blank text words none q
told_whole (Err e) text words is none q = tt
