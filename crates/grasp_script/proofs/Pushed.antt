-- Words behind words.
use Rattle.std.proofs.Common.{◌≡◌, ℕ, ◌+◌, List, [], ◌∷◌, ◌++◌, take, Some, refl, sym, ap, ◌∙◌, append_assoc}
use Rattle.std.proofs.lemmas.List.{append-nil}
use Rattle.std.specs.List.{slice_get}
use Rattle.grasp_cbor.proofs.Places.{take_got}
use Rattle.grasp_types.specs.Prefix.{AddressBlock}
use Rattle.grasp_types.specs.declared.flood.FloodRead.{FloodRead}
use Rattle.grasp_text.specs.Line.{prefix_word}
use Rattle.grasp_text.specs.Words.{spaced}
use Rattle.grasp_text.proofs.Pushed.{one_pushed, some_pushed, extends_words, extends_later}
use Rattle.grasp_script.specs.Answers.{flood_read_words, all_flood_read_words, prefix_words}

pub ruleset pushes = (one_pushed, some_pushed, extends_words, extends_later)

-- ---- without the first blank

-- ---- one more of a list

all_reads-append : (xs ys : List FloodRead) → all_flood_read_words (xs ++ ys) ≡ all_flood_read_words xs ++ all_flood_read_words ys
all_reads-append [] ys = refl
all_reads-append (x ∷ xs) ys = ap (λ (t : List (List ℕ)). flood_read_words x ++ t) (all_reads-append xs ys) ∙ sym (append_assoc (flood_read_words x) (all_flood_read_words xs) (all_flood_read_words ys))

pub reads_step : (xs : List FloodRead) (i : ℕ) (x : FloodRead) (old out new : List ℕ) → slice_get xs i ≡ Some x → out ≡ old ++ spaced (all_flood_read_words (take i xs)) → new ≡ out ++ spaced (flood_read_words x) → new ≡ old ++ spaced (all_flood_read_words (take (i + 1) xs))
reads_step xs i x old out new e p q =
    some_pushed old out new (all_flood_read_words (take i xs)) (flood_read_words x) p q
    ∙ ap (λ (t : List (List ℕ)). old ++ spaced t) (sym (ap all_flood_read_words (take_got xs i x e) ∙ all_reads-append (take i xs) (x ∷ []) ∙ ap (λ (t : List (List ℕ)). all_flood_read_words (take i xs) ++ t) (append-nil (flood_read_words x))))

map-append : (xs ys : List AddressBlock) → prefix_words (xs ++ ys) ≡ prefix_words xs ++ prefix_words ys
map-append [] ys = refl
map-append (x ∷ xs) ys = ap (λ (t : List (List ℕ)). prefix_word x ∷ t) (map-append xs ys)

pub prefixes_step : (xs : List AddressBlock) (i : ℕ) (x : AddressBlock) (old out new : List ℕ) → slice_get xs i ≡ Some x → out ≡ old ++ spaced (prefix_words (take i xs)) → new ≡ out ++ spaced (prefix_word x ∷ []) → new ≡ old ++ spaced (prefix_words (take (i + 1) xs))
prefixes_step xs i x old out new e p q =
    some_pushed old out new (prefix_words (take i xs)) (prefix_word x ∷ []) p q
    ∙ ap (λ (t : List (List ℕ)). old ++ spaced t) (sym (ap prefix_words (take_got xs i x e) ∙ map-append (take i xs) (x ∷ [])))
