-- What the reports of crashes and of questions tell.
use Rattle.std.proofs.Common.{◌≡◌, ℕ, List, [], ◌∷◌, ◌++◌, Result, Ok, Err, refl, sym, ap, ◌∙◌}
use Rattle.std.specs.Prelude.{codes}
use Rattle.std.proofs.lemmas.Bool.{false≢true, true≢false}
use Rattle.std.proofs.lemmas.List.{append_cancel_left}
use Rattle.std.proofs.lemmas.Option.{same_Some}
use Rattle.grasp_doubter.specs.declared.asking.AskFault.{AskFault}
use Rattle.grasp_doubter.specs.declared.asking.AskFault.TheVariants.{Busy, NotDoubtful, NotGiven}
use Rattle.grasp_pool.specs.declared.image.PoolImage.{PoolImage}
use Rattle.grasp_text.specs.Line.{prefix_word}
use Rattle.grasp_text.specs.Reading.{block_of}
use Rattle.grasp_text.specs.Words.{is_next, spaced, words_of}
use Rattle.grasp_text.proofs.PrefixWords.{block_found}
use Rattle.grasp_text.proofs.Pushed.{joined_spaced}
use Rattle.grasp_types.specs.Prefix.{AddressBlock as Prefix, IsPrefix}
use Rattle.grasp_script.specs.Answers.{prefix_words}
use Rattle.grasp_script.proofs.ActLines.{AreWords}
use Rattle.grasp_script.proofs.WholeWords.{prefix, spelled, words_again}
use Rattle.grasp_script_doubts.specs.Reports.{asked_words}
use Rattle.grasp_script_kept.specs.Reports.{image_words}
use Rattle.grasp_laws_lines.specs.Reports.{NamesPrefix, QuestionReportsDiffer, ArePrefixes, NamesPrefixes, CrashReportsDiffer}

-- ---- words

-- words behind one text are the same where the texts are
same_words : (text v w : List ℕ) (vs ws : List (List ℕ)) → AreWords (v ∷ vs) → AreWords (w ∷ ws) → text ++ spaced (v ∷ vs) ≡ text ++ spaced (w ∷ ws) → v ∷ vs ≡ w ∷ ws
same_words text v w vs ws h k e =
    let behind : 32 ∷ (v ++ spaced vs) ≡ 32 ∷ (w ++ spaced ws) = append_cancel_left text (spaced (v ∷ vs)) (spaced (w ∷ ws)) e in
    let lines : v ++ spaced vs ≡ w ++ spaced ws = cc in
    sym (words_again v vs h.0 h.1) ∙ ap words_of (joined_spaced v vs ∙ lines ∙ sym (joined_spaced w ws)) ∙ words_again w ws k.0 k.1

of_pair : ℕ × ℕ → Prefix
of_pair x = record { address = x.0; length = x.1 }

same_prefix : (p q : Prefix) → IsPrefix p.address p.length → IsPrefix q.address q.length → prefix_word p ≡ prefix_word q → p ≡ q
unfolding of_pair
same_prefix p q a b e = ap of_pair (same_Some (p.address, p.length) (q.address, q.length) (sym (block_found p (prefix_word p) a refl) ∙ block_found q (prefix_word p) b e))

-- ---- questions

asked_are_words : (a : Result (Unit {0}) AskFault) → NamesPrefix a → AreWords (asked_words a)
asked_are_words (Ok u) h = (spelled (codes "ok") refl refl, tt)
asked_are_words (Err (Busy p)) h = (spelled (codes "busy") refl refl, (prefix p h, tt))
asked_are_words (Err NotDoubtful) h = (spelled (codes "notdoubtful") refl refl, tt)
asked_are_words (Err NotGiven) h = (spelled (codes "notgiven") refl refl, tt)

-- the word that an answer begins with
is_word : (w : List ℕ) (vs ws : List (List ℕ)) → vs ≡ ws → is_next w vs ≡ is_next w ws
is_word w vs ws e = ap (is_next w) e

same_answer : (a b : Result (Unit {0}) AskFault) → NamesPrefix a → NamesPrefix b → asked_words a ≡ asked_words b → a ≡ b
same_answer (Ok u) (Ok v) h k e = refl
same_answer (Ok u) (Err (Busy q)) h k e = absurd (true≢false (is_word (codes "ok") _ _ e))
same_answer (Ok u) (Err NotDoubtful) h k e = absurd (true≢false (is_word (codes "ok") _ _ e))
same_answer (Ok u) (Err NotGiven) h k e = absurd (true≢false (is_word (codes "ok") _ _ e))
same_answer (Err (Busy p)) (Ok v) h k e = absurd (false≢true (is_word (codes "ok") _ _ e))
same_answer (Err (Busy p)) (Err (Busy q)) h k e = let same : prefix_word p ≡ prefix_word q = cc in ap (λ (x : Prefix). Err (Busy x)) (same_prefix p q h k same)
same_answer (Err (Busy p)) (Err NotDoubtful) h k e = absurd (true≢false (is_word (codes "busy") _ _ e))
same_answer (Err (Busy p)) (Err NotGiven) h k e = absurd (true≢false (is_word (codes "busy") _ _ e))
same_answer (Err NotDoubtful) (Ok v) h k e = absurd (false≢true (is_word (codes "ok") _ _ e))
same_answer (Err NotDoubtful) (Err (Busy q)) h k e = absurd (false≢true (is_word (codes "busy") _ _ e))
same_answer (Err NotDoubtful) (Err NotDoubtful) h k e = refl
same_answer (Err NotDoubtful) (Err NotGiven) h k e = absurd (true≢false (is_word (codes "notdoubtful") _ _ e))
same_answer (Err NotGiven) (Ok v) h k e = absurd (false≢true (is_word (codes "ok") _ _ e))
same_answer (Err NotGiven) (Err (Busy q)) h k e = absurd (false≢true (is_word (codes "busy") _ _ e))
same_answer (Err NotGiven) (Err NotDoubtful) h k e = absurd (false≢true (is_word (codes "notdoubtful") _ _ e))
same_answer (Err NotGiven) (Err NotGiven) h k e = refl

pub questions_differ : QuestionReportsDiffer
questions_differ text a b h k e =
    let all : codes "=" ∷ asked_words a ≡ codes "=" ∷ asked_words b =
    same_words text (codes "=") (codes "=") (asked_words a) (asked_words b) (spelled (codes "=") refl refl, asked_are_words a h) (spelled (codes "=") refl refl, asked_are_words b k) e in
    same_answer a b h k (cc)

-- ---- images

prefixes_are_words : (ps : List Prefix) (ws : List (List ℕ)) → ArePrefixes ps → AreWords ws → AreWords (prefix_words ps ++ ws)
prefixes_are_words [] ws h k = k
prefixes_are_words (p ∷ ps) ws h k = (prefix p h.0, prefixes_are_words ps ws h.1 k)

just_prefixes : (ps : List Prefix) → ArePrefixes ps → AreWords (prefix_words ps)
just_prefixes [] h = tt
just_prefixes (p ∷ ps) h = (prefix p h.0, just_prefixes ps h.1)

image_are_words : (x : PoolImage) → NamesPrefixes x → AreWords (image_words x)
image_are_words x h = (spelled (codes "held") refl refl, prefixes_are_words x.free (codes "doubt" ∷ prefix_words x.doubtful) h.free (spelled (codes "doubt") refl refl, just_prefixes x.doubtful h.doubtful))

-- no prefix is written as the word that the list of those in doubt begins with
no_mark : (p : Prefix) → IsPrefix p.address p.length → codes "doubt" ≡ prefix_word p → ⊥
unfolding block_of
no_mark p is e = let found = block_found p (codes "doubt") is e in absurd (cc)

same_all : (ps qs : List Prefix) → ArePrefixes ps → ArePrefixes qs → prefix_words ps ≡ prefix_words qs → ps ≡ qs
same_all [] [] h k e = refl
same_all [] (q ∷ qs) h k e = absurd (cc)
same_all (p ∷ ps) [] h k e = absurd (cc)
same_all (p ∷ ps) (q ∷ qs) h k e =
    let one : prefix_word p ≡ prefix_word q = cc in
    let more : prefix_words ps ≡ prefix_words qs = cc in
    let first : p ≡ q = same_prefix p q h.0 k.0 one in
    let rest : ps ≡ qs = same_all ps qs h.1 k.1 more in
    cc

same_lists : (ps qs ds es : List Prefix) → ArePrefixes ps → ArePrefixes qs → ArePrefixes ds → ArePrefixes es
    → prefix_words ps ++ codes "doubt" ∷ prefix_words ds ≡ prefix_words qs ++ codes "doubt" ∷ prefix_words es → (ps ≡ qs) × (ds ≡ es)
same_lists [] [] ds es h k l m e = let more : prefix_words ds ≡ prefix_words es = cc in (refl, same_all ds es l m more)
same_lists [] (q ∷ qs) ds es h k l m e = let one : codes "doubt" ≡ prefix_word q = cc in absurd (no_mark q k.0 one)
same_lists (p ∷ ps) [] ds es h k l m e = let one : prefix_word p ≡ codes "doubt" = cc in absurd (no_mark p h.0 (sym one))
same_lists (p ∷ ps) (q ∷ qs) ds es h k l m e =
    let one : prefix_word p ≡ prefix_word q = cc in
    let more : prefix_words ps ++ codes "doubt" ∷ prefix_words ds ≡ prefix_words qs ++ codes "doubt" ∷ prefix_words es = cc in
    let first : p ≡ q = same_prefix p q h.0 k.0 one in
    let rest = same_lists ps qs ds es h.1 k.1 l m more in
    let front : ps ≡ qs = rest.0 in
    (cc, rest.1)

pub crashes_differ : CrashReportsDiffer
crashes_differ text x y h k e =
    let all : codes "=" ∷ codes "restarted" ∷ image_words x ≡ codes "=" ∷ codes "restarted" ∷ image_words y =
    same_words text (codes "=") (codes "=") (codes "restarted" ∷ image_words x) (codes "restarted" ∷ image_words y)
    (spelled (codes "=") refl refl, (spelled (codes "restarted") refl refl, image_are_words x h)) (spelled (codes "=") refl refl, (spelled (codes "restarted") refl refl, image_are_words y k)) e in
    let lists : prefix_words x.free ++ codes "doubt" ∷ prefix_words x.doubtful ≡ prefix_words y.free ++ codes "doubt" ∷ prefix_words y.doubtful = cc in
    let same = same_lists x.free y.free x.doubtful y.doubtful h.free k.free h.doubtful k.doubtful lists in
    let free : x.free ≡ y.free = same.0 in
    let doubtful : x.doubtful ≡ y.doubtful = same.1 in
    ap (λ (f : List Prefix). record { free = f; doubtful = x.doubtful }) free ∙ ap (λ (d : List Prefix). record { free = y.free; doubtful = d }) doubtful
