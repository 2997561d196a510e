-- No word of a line holds a blank, so a line has its words.
use Rattle.std.proofs.Common.{◌≡◌, ℕ, zero, suc, ◌^◌, ◌<◌, ◌≤◌, Bool, true, false, cond, eqb, ltb, ◌&&◌, List, [], ◌∷◌, ◌++◌, get_or, Option, Some, None, refl, sym, ap, ◌∙◌, arith}
use Rattle.std.specs.List.{onto_first, AllByRecursion}
use Rattle.std.specs.Prelude.{All, IfSome, codes, decimal, slice_index}
use Rattle.std.specs.Str.{IsUtf8}
use Rattle.std.proofs.lemmas.Bool.{ne_eqb, and_parts, ltb-true}
use Rattle.std.proofs.lemmas.List.{get_or_default}
use Rattle.std.proofs.lemmas.List.Elements.{All-from_recursion, All-head, All-tail}
use Rattle.std.proofs.lemmas.Str.{IsUtf8-append, IsUtf8-from_ascii}
use Rattle.std.proofs.lemmas.List.Splits.{slice_split_none}
use Rattle.grasp_cbor.specs.DataItem.{DataItem}
use Rattle.grasp_types.specs.Objective.{IsObjective, IsValue}
use Rattle.grasp_types.specs.Prefix.{AddressBlock, IsPrefix}
use Rattle.grasp_types.specs.declared.address.Address.TheVariants.{V6}
use Rattle.grasp_types.specs.declared.message.Message.TheVariants as message
use Rattle.grasp_types.specs.declared.message.Verdict.TheVariants.{Decline}
use Rattle.grasp_types.specs.declared.objective.Objective.{Objective}
use Rattle.grasp_text.specs.Laws.{IsPrintable}
use Rattle.grasp_text.specs.Line.{value_word, text_word, v6_word, prefix_word, objective_words, or_dash}
use Rattle.grasp_text.specs.Words.{words_of, joined, is_over}
use Rattle.grasp_text.proofs.Blanks.{line_words, lines_printable, each_other, v6_visible}
use Rattle.grasp_text.proofs.NumberWords.{number_digit, number_utf8}
use Rattle.grasp_text.proofs.Splitting.{has_word}
use Rattle.grasp_script.proofs.Lists.{all_front, all_behind}

-- a line of one word
pub record IsWord (w : List ℕ) : Type 0 where
  pub whole : words_of w ≡ w ∷ []
  pub utf8 : IsUtf8 w

-- the words of one byte more
abbrev one_more : ℕ → Bool → List (List ℕ) → List (List ℕ)
one_more x b parts = cond b ([] ∷ parts) (onto_first x parts)

shorter_at : (x : ℕ) (w : List ℕ) (b : Bool) (parts : List (List ℕ)) → is_over parts ≡ false → one_more x b parts ≡ (x ∷ w) ∷ [] → (b ≡ false) × (parts ≡ w ∷ [])
shorter_at x w true parts some e = absurd cc
shorter_at x w false [] some e = absurd cc
shorter_at x w false (part ∷ parts) some e = (refl, (cc))

-- a word, a blank, and other words
pub before_blank : (w rest : List ℕ) → words_of w ≡ w ∷ [] → words_of (w ++ 32 ∷ rest) ≡ w ∷ words_of rest
before_blank [] rest e = refl
before_blank (x ∷ w) rest e =
    let s = shorter_at x w (eqb x 32) (words_of w) (has_word w) e in
    ap (λ (b : Bool). one_more x b (words_of (w ++ 32 ∷ rest))) s.0 ∙ ap (onto_first x) (before_blank w rest s.1)

pub words_again : (w : List ℕ) (ws : List (List ℕ)) → IsWord w → AllByRecursion IsWord ws → words_of (joined (w ∷ ws)) ≡ w ∷ ws
words_again w [] h k = h.whole
words_again w (v ∷ ws) h k = before_blank w (joined (v ∷ ws)) h.whole ∙ ap (λ (t : List (List ℕ)). w ∷ t) (words_again v ws k.0 k.1)

-- bytes of ASCII
abbrev pub all_small : List ℕ → Bool
all_small [] = true
all_small (c ∷ w) = ltb c 128 && all_small w

small_at : (w : List ℕ) → all_small w ≡ true → (i : ℕ) → slice_index w i < 128
small_at [] e zero = omega arith
small_at [] e (suc i) = omega arith
small_at (c ∷ w) e zero = ltb-true c 128 (and_parts (ltb c 128) (all_small w) e).0
small_at (c ∷ w) e (suc i) = small_at w (and_parts (ltb c 128) (all_small w) e).1 i

pub small_utf8 : (w : List ℕ) → all_small w ≡ true → IsUtf8 w
small_utf8 w e = IsUtf8-from_ascii w (small_at w e)

pub utf8_again : (w : List ℕ) (ws : List (List ℕ)) → IsWord w → AllByRecursion IsWord ws → IsUtf8 (joined (w ∷ ws))
utf8_again w [] h k = h.utf8
utf8_again w (v ∷ ws) h k = IsUtf8-append w (32 ∷ joined (v ∷ ws)) h.utf8 (IsUtf8-append (32 ∷ []) (joined (v ∷ ws)) (small_utf8 (32 ∷ []) refl) (utf8_again v ws k.0 k.1))

-- ---- single words

pub spelled : (w : List ℕ) → words_of w ≡ w ∷ [] → all_small w ≡ true → IsWord w
spelled w e t = record { whole = e; utf8 = small_utf8 w t }

number_whole : (n : ℕ) → n < 2 ^ 64 → words_of (decimal n) ≡ decimal n ∷ []
number_whole n lt = slice_split_none (λ c. eqb c 32) (decimal n) (λ k d inside. rw (get_or_default (decimal n) k d 0 inside) (ne_eqb (get_or (decimal n) k 0) 32 (λ e. let digit = number_digit n k lt inside in omega arith)))

pub number : (n : ℕ) → n < 2 ^ 64 → IsWord (decimal n)
number n lt = record { whole = number_whole n lt; utf8 = number_utf8 n (decimal n) lt refl }

abbrev past : List (List ℕ) → List (List ℕ)
past [] = []
past (w ∷ ws) = ws

ascii_of : (w : List ℕ) → All IsPrintable w → (i : ℕ) → slice_index w i < 128
ascii_of [] h zero = omega arith
ascii_of [] h (suc i) = omega arith
ascii_of (x ∷ w) h zero = let p = All-head IsPrintable x w h in let most : x ≤ 126 = p.1 in omega arith
ascii_of (x ∷ w) h (suc i) = ascii_of w (All-tail IsPrintable x w h) i

printable_utf8 : (w : List ℕ) → All IsPrintable w → IsUtf8 w
printable_utf8 w h = IsUtf8-from_ascii w (ascii_of w h)

-- what is behind a word and a blank
behind_word : (w rest : List ℕ) → All IsPrintable (w ++ 32 ∷ rest) → All IsPrintable rest
behind_word w rest h = All-tail IsPrintable 32 rest (all_behind IsPrintable w (32 ∷ rest) h)

-- a value's word is one in the line of a message, and so is a text's
pub value : (v : DataItem) → IsValue v → IsWord (value_word v)
value v h =
    let all = line_words (message.Invalid 0 (Some v)) (omega arith, h) in
    let one : words_of (codes "invalid" ++ 32 ∷ (decimal 0 ++ 32 ∷ value_word v)) ≡ codes "invalid" ∷ words_of (decimal 0 ++ 32 ∷ value_word v) = before_blank (codes "invalid") (decimal 0 ++ 32 ∷ value_word v) refl in
    let two = before_blank (decimal 0) (value_word v) (number_whole 0 (omega arith)) in
    let printable = lines_printable (message.Invalid 0 (Some v)) (omega arith, h) in
    record {
      whole = ap past (sym two ∙ ap past (sym one ∙ all));
      utf8 = printable_utf8 (value_word v) (behind_word (decimal 0) (value_word v) (behind_word (codes "invalid") (decimal 0 ++ 32 ∷ value_word v) printable));
    }

pub text : (t : List ℕ) → IsUtf8 t → IsWord (text_word t)
text t h =
    let all = line_words (message.End 0 (Decline (Some t))) (omega arith, h) in
    let one : words_of (codes "end" ++ 32 ∷ (decimal 0 ++ 32 ∷ (codes "decline" ++ 32 ∷ text_word t))) ≡ codes "end" ∷ words_of (decimal 0 ++ 32 ∷ (codes "decline" ++ 32 ∷ text_word t)) = before_blank (codes "end") (decimal 0 ++ 32 ∷ (codes "decline" ++ 32 ∷ text_word t)) refl in
    let two = before_blank (decimal 0) (codes "decline" ++ 32 ∷ text_word t) (number_whole 0 (omega arith)) in
    let three : words_of (codes "decline" ++ 32 ∷ text_word t) ≡ codes "decline" ∷ words_of (text_word t) = before_blank (codes "decline") (text_word t) refl in
    let printable = lines_printable (message.End 0 (Decline (Some t))) (omega arith, h) in
    record {
      whole = ap past (sym three ∙ ap past (sym two ∙ ap past (sym one ∙ all)));
      utf8 = printable_utf8 (text_word t) (behind_word (codes "decline") (text_word t) (behind_word (decimal 0) (codes "decline" ++ 32 ∷ text_word t) (behind_word (codes "end") (decimal 0 ++ 32 ∷ (codes "decline" ++ 32 ∷ text_word t)) printable)));
    }

pub maybe_value : (v : Option DataItem) → IfSome v IsValue → IsWord (or_dash value_word v)
maybe_value None h = spelled (codes "-") refl refl
maybe_value (Some v) h = value v h

-- ---- prefixes

-- two words without a blank between them
one_word : (v w : List ℕ) → words_of v ≡ v ∷ [] → words_of w ≡ w ∷ [] → words_of (v ++ w) ≡ (v ++ w) ∷ []
one_word [] w e f = f
one_word (x ∷ v) w e f =
    let s = shorter_at x v (eqb x 32) (words_of v) (has_word v) e in
    ap (λ (b : Bool). one_more x b (words_of (v ++ w))) s.0 ∙ ap (onto_first x) (one_word v w s.1 f)

together : (v w : List ℕ) → IsWord v → IsWord w → IsWord (v ++ w)
together v w h k = record { whole = one_word v w h.whole k.whole; utf8 = IsUtf8-append v w h.utf8 k.utf8 }

-- an address's word is one in the line of a message
address : (n : ℕ) → n < 2 ^ 128 → IsWord (v6_word n)
address n lt =
    let o : Objective = record { name = []; flags = 0; loops = 0; value = None } in
    let is : IsObjective o = record { name = small_utf8 [] refl; flags = omega arith; loops = omega arith; value = tt } in
    let printable = lines_printable (message.Discovery 0 (V6 n) o) (omega arith, lt, is) in
    record {
      whole = slice_split_none (λ c. eqb c 32) (v6_word n) (All-from_recursion (λ c. eqb c 32 ≡ false) (v6_word n) (each_other (v6_word n) (v6_visible n).all));
      utf8 = printable_utf8 (v6_word n) (all_front IsPrintable (v6_word n) (32 ∷ joined (objective_words o)) (behind_word (decimal 0) _ (behind_word (codes "discovery") _ printable)));
    }

pub prefix : (p : AddressBlock) → IsPrefix p.address p.length → IsWord (prefix_word p)
prefix p is =
    let most : p.length ≤ 128 = is.most in
    together (v6_word p.address) (47 ∷ decimal p.length) (address p.address is.within) (together (47 ∷ []) (decimal p.length) (spelled (47 ∷ []) refl refl) (number p.length (omega arith)))
