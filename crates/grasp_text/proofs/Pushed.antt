-- Words behind words.
use Rattle.std.proofs.Common.{◌≡◌, ℕ, ◌+◌, ◌≤◌, List, [], ◌∷◌, ◌++◌, length, take, Some, Result, Ok, Err, refl, sym, ap, subst, ◌∙◌, append_assoc}
use Rattle.std.specs.Prelude.{OnOk, OnErr}
use Rattle.std.proofs.lemmas.List.{append-nil, take_all}
use Rattle.std.specs.List.{AllByRecursion, slice_get}
use Rattle.grasp_cbor.proofs.Places.{take_got}
use Rattle.grasp_cbor.specs.Extends.{Extends}
use Rattle.grasp_types.specs.declared.address.Locator.{Locator}
use Rattle.grasp_types.specs.declared.flood.FloodPart.{FloodPart}
use Rattle.grasp_types.specs.declared.message.Message.{Message}
use Rattle.grasp_types.specs.declared.message.Message.TheVariants.{Noop}
use Rattle.grasp_text.specs.Line.{locator_words, all_locator_words, flood_part_words, all_flood_part_words, message_words}
use Rattle.grasp_text.specs.Words.{spaced, joined}
use Rattle.grasp_text.specs.Writing.{line_name, words_behind_name}

-- one word, and then more
pub one_pushed : (old middle new w rest : List ℕ) → middle ≡ old ++ 32 ∷ (w ++ []) → new ≡ middle ++ rest → new ≡ old ++ 32 ∷ (w ++ rest)
one_pushed old middle new w rest p q = q ∙ ap (λ (x : List ℕ). x ++ rest) p ∙ append_assoc old (32 ∷ (w ++ [])) rest ∙ ap (λ (x : List ℕ). old ++ 32 ∷ (x ++ rest)) (append-nil w)

pub spaced_append : (ws vs : List (List ℕ)) → spaced (ws ++ vs) ≡ spaced ws ++ spaced vs
spaced_append [] vs = refl
spaced_append (w ∷ ws) vs = ap (λ (x : List ℕ). 32 ∷ (w ++ x)) (spaced_append ws vs) ∙ ap (λ (x : List ℕ). 32 ∷ x) (sym (append_assoc w (spaced ws) (spaced vs)))

-- some words, and then more
pub some_pushed : (old middle new : List ℕ) (ws vs : List (List ℕ)) → middle ≡ old ++ spaced ws → new ≡ middle ++ spaced vs → new ≡ old ++ spaced (ws ++ vs)
some_pushed old middle new ws vs p q = q ∙ ap (λ (x : List ℕ). x ++ spaced vs) p ∙ append_assoc old (spaced ws) (spaced vs) ∙ ap (λ (x : List ℕ). old ++ x) (sym (spaced_append ws vs))

-- a word, and the others behind blanks
pub joined_spaced : (w : List ℕ) (ws : List (List ℕ)) → joined (w ∷ ws) ≡ w ++ spaced ws
joined_spaced w [] = sym (append-nil w)
joined_spaced w (v ∷ ws) = ap (λ (x : List ℕ). w ++ 32 ∷ x) (joined_spaced v ws)

-- what stays where a later word isn't appended whole
pub extends_words : (old middle new words : List ℕ) → middle ≡ old ++ words → Extends middle new → Extends old new
extends_words old middle new words e b = (words ++ b.0, b.1 ∙ ap (λ (x : List ℕ). x ++ b.0) e ∙ append_assoc old words b.0)

pub extends_later : {A E : Type 0} (r : Result A E) (old middle new words : List ℕ) → middle ≡ old ++ words → OnErr r (Extends middle new) → OnErr r (Extends old new)
extends_later (Ok a) old middle new words e h = tt
extends_later (Err x) old middle new words e h = extends_words old middle new words e h

pub ruleset pushes = (one_pushed, some_pushed, extends_words, extends_later)

-- ---- one more locator, and one more part

pub all_locator_words-append : (xs ys : List Locator) → all_locator_words (xs ++ ys) ≡ all_locator_words xs ++ all_locator_words ys
all_locator_words-append [] ys = refl
all_locator_words-append (x ∷ xs) ys = ap (λ (t : List (List ℕ)). locator_words x ++ t) (all_locator_words-append xs ys) ∙ sym (append_assoc (locator_words x) (all_locator_words xs) (all_locator_words ys))

pub all_flood_part_words-append : (xs ys : List FloodPart) → all_flood_part_words (xs ++ ys) ≡ all_flood_part_words xs ++ all_flood_part_words ys
all_flood_part_words-append [] ys = refl
all_flood_part_words-append (x ∷ xs) ys = ap (λ (t : List (List ℕ)). flood_part_words x ++ t) (all_flood_part_words-append xs ys) ∙ sym (append_assoc (flood_part_words x) (all_flood_part_words xs) (all_flood_part_words ys))

pub each_more : {A : Type 0} (P : A → Type 0) (xs : List A) (y : A) → AllByRecursion P xs → P y → AllByRecursion P (xs ++ y ∷ [])
each_more P [] y h p = (p, tt)
each_more P (x ∷ xs) y h p = (h.0, each_more P xs y h.1 p)

pub all_step : {A : Type 0} (P : A → Type 0) (xs : List A) (i : ℕ) (x : A) → slice_get xs i ≡ Some x → AllByRecursion P (take i xs) → P x → AllByRecursion P (take (i + 1) xs)
all_step P xs i x e h p = subst (λ ys. AllByRecursion P ys) (sym (take_got xs i x e)) (each_more P (take i xs) x h p)

pub locators_step : (ls : List Locator) (i : ℕ) (l : Locator) (old out new : List ℕ) → slice_get ls i ≡ Some l → out ≡ old ++ spaced (all_locator_words (take i ls)) → new ≡ out ++ spaced (locator_words l) → new ≡ old ++ spaced (all_locator_words (take (i + 1) ls))
locators_step ls i l old out new e p q =
    some_pushed old out new (all_locator_words (take i ls)) (locator_words l) p q
    ∙ ap (λ (x : List (List ℕ)). old ++ spaced x) (sym (ap all_locator_words (take_got ls i l e) ∙ all_locator_words-append (take i ls) (l ∷ []) ∙ ap (λ (x : List (List ℕ)). all_locator_words (take i ls) ++ x) (append-nil (locator_words l))))

pub parts_step : (ps : List FloodPart) (i : ℕ) (p : FloodPart) (old out new : List ℕ) → slice_get ps i ≡ Some p → out ≡ old ++ spaced (all_flood_part_words (take i ps)) → new ≡ out ++ spaced (flood_part_words p) → new ≡ old ++ spaced (all_flood_part_words (take (i + 1) ps))
parts_step ps i p old out new e a b =
    some_pushed old out new (all_flood_part_words (take i ps)) (flood_part_words p) a b
    ∙ ap (λ (x : List (List ℕ)). old ++ spaced x) (sym (ap all_flood_part_words (take_got ps i p e) ∙ all_flood_part_words-append (take i ps) (p ∷ []) ∙ ap (λ (x : List (List ℕ)). all_flood_part_words (take i ps) ++ x) (append-nil (flood_part_words p))))

pub all_done : {A : Type 0} (P : A → Type 0) (xs : List A) (i : ℕ) → length xs ≤ i → AllByRecursion P (take i xs) → AllByRecursion P xs
all_done P xs i le h = subst (λ ys. AllByRecursion P ys) (take_all i xs le) h

-- ---- a whole line

line_all : (m : Message) → message_words m ≡ line_name m ∷ words_behind_name m
line_all Noop = refl
line_all _ = refl

-- a name and the words behind it are the line
pub line_appended : (m : Message) (old middle new name : List ℕ) → middle ≡ old ++ name → name ≡ line_name m → new ≡ middle ++ spaced (words_behind_name m) → new ≡ old ++ joined (message_words m)
line_appended m old middle new name a b c =
    let behind : List ℕ = spaced (words_behind_name m) in
    let whole : line_name m ++ behind ≡ joined (message_words m) = sym (ap joined (line_all m) ∙ joined_spaced (line_name m) (words_behind_name m)) in
    c ∙ ap (λ (x : List ℕ). x ++ behind) a ∙ append_assoc old name behind ∙ ap (λ (x : List ℕ). old ++ (x ++ behind)) b ∙ ap (λ (x : List ℕ). old ++ x) whole

pub line_appended_later : {A E : Type 0} (r : Result A E) (m : Message) (old middle new name : List ℕ) → middle ≡ old ++ name → name ≡ line_name m → OnOk r (new ≡ middle ++ spaced (words_behind_name m)) → OnOk r (new ≡ old ++ joined (message_words m))
line_appended_later (Ok x) m old middle new name a b c = line_appended m old middle new name a b c
line_appended_later (Err e) m old middle new name a b c = tt
