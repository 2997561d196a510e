-- The header of a script, and its lines as they are written.
use Rattle.std.proofs.Common.{◌≡◌, ◌≢◌, ◌≤◌, ◌<◌, refl, sym, ap, ◌∙◌, subst, arith, ℕ, zero, suc, ◌+◌, ◌-◌, List, [], ◌∷◌, ◌++◌, append_assoc, length, length-append, take, drop, take-append-drop, Option, Result, Ok, Err, OnOk, OnErr, IfErr}
use Rattle.std.proofs.lemmas.List.{length-drop}
use Rattle.grasp_io.specs.Known.{AppendsFront, Passes}
use Rattle.grasp_io.proofs.Streams.{front_of_more, passes_held, passes_more, passes_then_front}
use Rattle.grasp_model_network.specs.declared.plan.WorldPlan.{WorldPlan}
use Rattle.grasp_script.proofs.ScriptLaws.{SameHeader, same_header}
use Rattle.grasp_script.specs.Reads.{HeaderRead}
use Rattle.grasp_script.specs.Scripts.{IsScript, text_lines, texts}
use Rattle.grasp_script.specs.declared.line.Line.{Line}
use Rattle.grasp_model_audit.specs.Recording.{ended_lines}
use Rattle.grasp_runner.specs.declared.fault.RunFault.{RunFault}
use Rattle.grasp_runner.specs.declared.fault.RunFault.TheVariants as fault
use Rattle.grasp_recorder.specs.Passing.{header_in}

abbrev Lines : Type 0
Lines = List (List ℕ)

-- ---- how many lines the header has

texts_count : (lines : List Line) → length (texts lines) ≡ length lines
texts_count [] = refl
texts_count (line ∷ lines) = ap suc (texts_count lines)

take_front : (xs ys : Lines) → take (length xs) (xs ++ ys) ≡ xs
take_front [] [] = refl
take_front [] (y ∷ ys) = refl
take_front (x ∷ xs) ys = ap (λ (zs : Lines). x ∷ zs) (take_front xs ys)

-- the lines before the last ones are the header
pub header_is : (text : List ℕ) (plan : WorldPlan) (lines : List Line) (s : IsScript text plan lines) → header_in text lines ≡ s.header
header_is text plan lines s =
    let all : length (text_lines text) ≡ length s.header + length (texts lines) = ap length s.parts ∙ length-append s.header (texts lines) in
    let count : length (text_lines text) - length lines ≡ length s.header = omega (arith, all, texts_count lines) in
    ap (λ n. take n (text_lines text)) count ∙ ap (take (length s.header)) s.parts ∙ take_front s.header (texts lines)

-- what was read is the header
pub header_whole : (text rest : List ℕ) (plan other : WorldPlan) (lines : List Line) (n : ℕ) → IsScript text plan lines → HeaderRead text rest other n → take n (text_lines text) ≡ header_in text lines
header_whole text rest plan other lines n s h = by (same_header h.header s.header other plan h.is_header s.is_header (text_lines rest) (texts lines) (sym h.parts ∙ s.parts)) where
  by : SameHeader other plan h.header s.header (text_lines rest) (texts lines) → take n (text_lines text) ≡ header_in text lines
  by same =
      ap (λ k. take k (text_lines text)) h.place ∙ ap (take (length h.header)) h.parts ∙ take_front h.header (text_lines rest)
      ∙ same.parts.front ∙ sym (header_is text plan lines s)

pub header_within : (text rest : List ℕ) (plan : WorldPlan) (n : ℕ) → HeaderRead text rest plan n → n ≤ length (text_lines text)
header_within text rest plan n h =
    let all : length (text_lines text) ≡ length h.header + length (text_lines rest) = ap length h.parts ∙ length-append h.header (text_lines rest) in
    omega (arith, all, h.place)

-- ---- lines, each ended

pub ended_joined : (xs ys : Lines) → ended_lines (xs ++ ys) ≡ ended_lines xs ++ ended_lines ys
ended_joined [] ys = refl
ended_joined (x ∷ xs) ys = ap (λ (rest : List ℕ). x ++ 10 ∷ rest) (ended_joined xs ys) ∙ sym (append_assoc x (10 ∷ ended_lines xs) (ended_lines ys))

-- ---- the loop

-- the lines of the text before this one were put, and these are the lines from it on
pub record HasPut (all : Lines) (i : ℕ) (rest : List ℕ) (start now : Option (List ℕ)) (held : List ℕ) : Type 0 where
  pub left : drop i all ≡ text_lines rest
  pub passes : Passes start now held (ended_lines (take i all))

drop_none : (xs : Lines) → drop 0 xs ≡ xs
drop_none [] = refl
drop_none (x ∷ xs) = refl

take_none : (xs : Lines) → take 0 xs ≡ []
take_none [] = refl
take_none (x ∷ xs) = refl

pub nothing_put : (text : List ℕ) (start : Option (List ℕ)) (held : List ℕ) → held ≡ [] → HasPut (text_lines text) 0 text start start held
nothing_put text start held none = record {
  left = drop_none (text_lines text);
  passes = subst (λ (t : List ℕ). Passes start start held t) (none ∙ sym (ap ended_lines (take_none (text_lines text)))) (passes_held start held);
}

-- before the last line there is one
pub line_left : (all : Lines) (i count : ℕ) (rest : List ℕ) → drop i all ≡ text_lines rest → i < count → count ≤ length all → text_lines rest ≡ [] → ⊥
line_left all i count rest left few most none =
    let gone : length (drop i all) ≡ 0 = ap length (left ∙ none) in
    let some : length (drop i all) ≡ length all - i = length-drop i all in
    absurd (omega (arith, gone, some, few, most))

one_taken : (xs : Lines) (i : ℕ) (x : List ℕ) (rest : Lines) → drop i xs ≡ x ∷ rest → take (suc i) xs ≡ take i xs ++ x ∷ []
one_taken [] zero x rest e = absurd cc
one_taken [] (suc i) x rest e = absurd cc
one_taken (y ∷ xs) zero x rest e = (λ i. (same i) ∷ take_none xs i) where
  same : y ≡ x
  same = cc
one_taken (y ∷ xs) (suc i) x rest e = ap (λ (zs : Lines). y ∷ zs) (one_taken xs i x rest e)

one_left : (xs : Lines) (i : ℕ) (x : List ℕ) (rest : Lines) → drop i xs ≡ x ∷ rest → drop (suc i) xs ≡ rest
one_left [] zero x rest e = absurd cc
one_left [] (suc i) x rest e = absurd cc
one_left (y ∷ xs) zero x rest e = drop_none xs ∙ same where
  same : xs ≡ rest
  same = cc
one_left (y ∷ xs) (suc i) x rest e = one_left xs i x rest e

one_more : (i : ℕ) → i + 1 ≡ suc i
one_more i = omega arith

next_taken : (xs : Lines) (i : ℕ) (x : List ℕ) (rest : Lines) → drop i xs ≡ x ∷ rest → take (i + 1) xs ≡ take i xs ++ x ∷ []
next_taken xs i x rest e = ap (λ k. take k xs) (one_more i) ∙ one_taken xs i x rest e

next_left : (xs : Lines) (i : ℕ) (x : List ℕ) (rest : Lines) → drop i xs ≡ x ∷ rest → drop (i + 1) xs ≡ rest
next_left xs i x rest e = ap (λ k. drop k xs) (one_more i) ∙ one_left xs i x rest e

ended_next : (xs : Lines) (i : ℕ) (x : List ℕ) (rest : Lines) → drop i xs ≡ x ∷ rest → ended_lines (take (i + 1) xs) ≡ ended_lines (take i xs) ++ (x ++ 10 ∷ [])
ended_next xs i x rest e = ap ended_lines (next_taken xs i x rest e) ∙ ended_joined (take i xs) (x ∷ [])

-- after one more
pub next_put : (all : Lines) (i : ℕ) (rest behind line : List ℕ) (start now later : Option (List ℕ)) (held left : List ℕ) → HasPut all i rest start now held → text_lines rest ≡ line ∷ text_lines behind
    → Passes now later left (held ++ (line ++ 10 ∷ [])) → HasPut all (i + 1) behind start later left
next_put all i rest behind line start now later held left h e p =
    let at : drop i all ≡ line ∷ text_lines behind = h.left ∙ e in
    record {
      left = next_left all i line (text_lines behind) at;
      passes = subst (Passes start later left) (sym (ended_next all i line (text_lines behind) at)) (passes_more start now later held (ended_lines (take i all)) left (line ++ 10 ∷ []) h.passes p);
    }

-- a write failed
taken_more : (xs : Lines) (i n : ℕ) → i ≤ n → take n xs ≡ take i xs ++ drop i (take n xs)
taken_more xs i n h = sym (take-append-drop i (take n xs)) ∙ ap (λ (ys : Lines). ys ++ drop i (take n xs)) (taken_twice xs i n h) where
  taken_twice : (ys : Lines) (j m : ℕ) → j ≤ m → take j (take m ys) ≡ take j ys
  taken_twice [] zero zero le = refl
  taken_twice [] zero (suc m) le = refl
  taken_twice [] (suc j) zero le = refl
  taken_twice [] (suc j) (suc m) le = refl
  taken_twice (y ∷ ys) zero zero le = refl
  taken_twice (y ∷ ys) zero (suc m) le = refl
  taken_twice (y ∷ ys) (suc j) zero le = absurd (omega (arith, le))
  taken_twice (y ∷ ys) (suc j) (suc m) le = ap (λ (zs : Lines). y ∷ zs) (taken_twice ys j m (omega (arith, le)))

pub front_put : (all : Lines) (i count : ℕ) (rest behind line : List ℕ) (start now later : Option (List ℕ)) (held : List ℕ) → HasPut all i rest start now held → text_lines rest ≡ line ∷ text_lines behind → i < count
    → AppendsFront now later (held ++ (line ++ 10 ∷ [])) → AppendsFront start later (ended_lines (take count all))
front_put all i count rest behind line start now later held h e few p =
    let at : drop i all ≡ line ∷ text_lines behind = h.left ∙ e in
    let here : AppendsFront start later (ended_lines (take (i + 1) all)) =
    subst (AppendsFront start later) (sym (ended_next all i line (text_lines behind) at)) (passes_then_front start now later held (ended_lines (take i all)) (line ++ 10 ∷ []) h.passes p) in
    let more : take count all ≡ take (i + 1) all ++ drop (i + 1) (take count all) = taken_more all (i + 1) count (omega (arith, few)) in
    subst (AppendsFront start later) (sym (ap ended_lines more ∙ ended_joined (take (i + 1) all) (drop (i + 1) (take count all))))
    (front_of_more start later (ended_lines (take (i + 1) all)) (ended_lines (drop (i + 1) (take count all))) here)

-- all were put
take_past : (xs : Lines) (i n : ℕ) → n ≤ i → i ≤ n → take i xs ≡ take n xs
take_past xs i n least most = ap (λ k. take k xs) same where
  same : i ≡ n
  same = omega (arith, least, most)

pub all_put : (all : Lines) (i count : ℕ) (rest : List ℕ) (start now : Option (List ℕ)) (held : List ℕ) → HasPut all i rest start now held → count ≤ i → i ≤ count → Passes start now held (ended_lines (take count all))
all_put all i count rest start now held h least most = subst (λ (ls : Lines). Passes start now held (ended_lines ls)) (take_past all i count least most) h.passes

-- ---- the header

-- the lines that were put are the header
pub header_put : (text : List ℕ) (lines : List Line) (n : ℕ) (a b : Option (List ℕ)) (held : List ℕ) (r : Result (Unit {0}) RunFault) → take n (text_lines text) ≡ header_in text lines
    → OnOk r (Passes a b held (ended_lines (take n (text_lines text)))) → OnOk r (Passes a b held (ended_lines (header_in text lines)))
header_put text lines n a b held (Ok done) is p = subst (λ (ls : Lines). Passes a b held (ended_lines ls)) is p
header_put text lines n a b held (Err f) is p = tt

-- or a front of it was written
pub header_front : (text : List ℕ) (lines : List Line) (n : ℕ) (a b : Option (List ℕ)) (r : Result (Unit {0}) RunFault) → take n (text_lines text) ≡ header_in text lines
    → OnErr r (AppendsFront a b (ended_lines (take n (text_lines text)))) → OnErr r (AppendsFront a b (ended_lines (header_in text lines)))
header_front text lines n a b (Ok done) is p = tt
header_front text lines n a b (Err f) is p = subst (λ (ls : Lines). AppendsFront a b (ended_lines ls)) is p

-- where a write failed, no network sent too much
pub no_stop : (r : Result (Unit {0}) RunFault) → IfErr r (λ f. f ≡ fault.WriteFault) → IfErr r (λ f. f ≢ fault.TooMuch)
no_stop (Ok done) is = tt
no_stop (Err f) is = λ same. apart (sym is ∙ same) where
  apart : fault.WriteFault ≡ fault.TooMuch → ⊥
  apart e = absurd cc
