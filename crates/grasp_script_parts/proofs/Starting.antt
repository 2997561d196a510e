-- A header ends in a line of its own, and a bad line before which no header ends is the header's.
use Rattle.std.proofs.Common.{◌≡◌, inl, inr, ℕ, ◌+◌, ◌-◌, ◌||◌, Bool, true, false, List, [], ◌∷◌, ◌++◌, length, map, take, refl, sym, ap, subst, ◌∙◌, append_assoc, arith, Err}
use Rattle.std.specs.List.{list_any}
use Rattle.std.proofs.lemmas.List.{append-nil}
use Rattle.grasp_text.specs.Words.{joined, words_of}
use Rattle.grasp_text.proofs.Splitting.{joined_again}
use Rattle.grasp_model_network.specs.declared.plan.WorldPlan.{WorldPlan}
use Rattle.grasp_script.specs.Headers.{header_words, start_words}
use Rattle.grasp_script.specs.Reads.{opening_words}
use Rattle.grasp_script.specs.Scripts.{BeginsScript, IfBadScript, IsBadLine, IsHeader, IsMissingLine, IsUnfitLine, text_lines, texts}
use Rattle.grasp_script.specs.declared.fault.ScriptFault.{ScriptFault}
use Rattle.grasp_script.specs.declared.fault.ScriptFault.TheVariants.{BadScript, OutOfMemory}
use Rattle.grasp_script.proofs.HeaderLaws.{WordLines}
use Rattle.grasp_script.proofs.ScriptLaws.{Lines, header_parts}
use Rattle.grasp_script_parts.specs.Heads.{BeginsHead, HasNoHead, IsBadHead}
use Rattle.grasp_script_parts.specs.Starting.{IsHeadRefused, has_start, is_start}
use Rattle.grasp_script_parts.proofs.Heads.{Splits, splits}

or_true : (b : Bool) → (b || true) ≡ true
or_true true = refl
or_true false = refl

-- ---- the last line of a header

start_is : (line : List ℕ) → words_of line ≡ start_words → is_start line ≡ true
start_is line is = subst (λ (l : List ℕ). is_start l ≡ true) (sym (ap joined is) ∙ joined_again line) refl

ends_start : (ls : Lines) (ws : WordLines) → map words_of ls ≡ ws ++ start_words ∷ [] → has_start ls ≡ true
unfolding has_start
ends_start [] [] e = absurd cc
ends_start [] (w ∷ ws) e = absurd cc
ends_start (l ∷ ls) [] e = let first : words_of l ≡ start_words = cc in ap (λ (b : Bool). b || list_any is_start ls) (start_is l first)
ends_start (l ∷ ls) (w ∷ ws) e =
    let rest : map words_of ls ≡ ws ++ start_words ∷ [] = cc in
    ap (λ (b : Bool). is_start l || b) (ends_start ls ws rest) ∙ or_true (is_start l)

header_starts : (header : Lines) (plan : WorldPlan) → IsHeader header plan → has_start header ≡ true
header_starts header plan h =
    ends_start header (opening_words plan.nodes h.size h.told) (h.spelled ∙ sym (append-nil (header_words plan.nodes h.size h.told)) ∙ header_parts plan.nodes h.size h.told [])

-- ---- lines without it

none_by : (t u v : Bool) → (t || u) ≡ false → (u ≡ false → v ≡ false) → (t || v) ≡ false
none_by true u v e then = absurd (cc)
none_by false u v e then = then e

front_none : (a b : Lines) → has_start (a ++ b) ≡ false → has_start a ≡ false
unfolding has_start
front_none [] b e = refl
front_none (l ∷ a) b e = none_by (is_start l) (list_any is_start (a ++ b)) (list_any is_start a) e (front_none a b)

-- the first lines of a text
take_front : (front rest : Lines) → take (length front) (front ++ rest) ≡ front
take_front [] rest = refl
take_front (l ∷ front) rest = ap (λ (t : Lines). l ∷ t) (take_front front rest)

-- no header is a front of them
no_header : (header : Lines) (plan : WorldPlan) (lines : Lines) → IsHeader header plan → has_start lines ≡ false → Splits header lines → ⊥
no_header header plan lines h none s =
    let z : has_start header ≡ false = front_none header s.more (subst (λ (ls : Lines). has_start ls ≡ false) s.parts none) in
    let y : has_start header ≡ true = header_starts header plan h in
    let w : true ≡ false = sym y ∙ z in cc

-- where they begin a script, they begin a header
begins_head : (front : Lines) → has_start front ≡ false → BeginsScript front → BeginsHead front
begins_head front none b = elim (splits b.header front (texts b.lines) b.more b.parts) [
  | inl s ↦ absurd (no_header b.header b.plan front b.is_header none s)
  | inr s ↦ record { plan = b.plan; header = b.header; more = s.more; is_header = b.is_header; parts = s.parts }
]

-- where lines begin a header, they begin a script
begins_script : (front : Lines) → BeginsHead front → BeginsScript front
begins_script front b = record { plan = b.plan; header = b.header; lines = []; more = b.more; is_header = b.is_header; meant = tt; parts = append-nil b.header ∙ b.parts }

same_behind : (a c d : Lines) → a ++ c ≡ a ++ d → c ≡ d
same_behind [] c d e = e
same_behind (x ∷ a) c d e = let rest : a ++ c ≡ a ++ d = cc in same_behind a c d rest

-- a header of a text, of which the lines before one have no start, has that line
module _ (text : List ℕ) (front : Lines) (line : List ℕ) (rest : Lines) (parts : text_lines text ≡ front ++ line ∷ rest) (none : has_start front ≡ false) (unfit : ¬ BeginsHead (front ++ line ∷ [])) where
  longer : (plan : WorldPlan) (header over more : Lines) → IsHeader header plan → text_lines text ≡ header ++ over → header ≡ front ++ more → ⊥
  longer plan header over [] h whole is = no_header header plan front h none (record { more = []; parts = sym (append-nil header ∙ is ∙ append-nil front) })
  longer plan header over (l ∷ more) h whole is =
      let behind : line ∷ rest ≡ (l ∷ more) ++ over =
      same_behind front (line ∷ rest) ((l ∷ more) ++ over) (sym parts ∙ whole ∙ ap (λ (t : Lines). t ++ over) is ∙ append_assoc front (l ∷ more) over) in
      let first : line ≡ l = cc in
      unfit (record {
        plan = plan;
        header = header;
        more = more;
        is_header = h;
        parts = is ∙ (λ i. front ++ sym first i ∷ more) ∙ sym (append_assoc front (line ∷ []) more);
      })

  no_head : HasNoHead text
  no_head plan header over h whole = elim (splits header front over (line ∷ rest) (sym whole ∙ parts)) [
    | inl s ↦ no_header header plan front h none s
    | inr s ↦ longer plan header over s.more h whole s.parts
  ]

unfit_head : (text : List ℕ) (n : ℕ) → has_start (take (n - 1) (text_lines text)) ≡ false → IsUnfitLine text n → IsBadHead text n
unfit_head text n none u = record {
  none = no_head text u.front u.line u.rest u.parts none_before unfit;
  bad = inl (record { front = u.front; line = u.line; rest = u.rest; parts = u.parts; before = begins_head u.front none_before u.before; none = unfit; place = u.place });
} where
  same : n - 1 ≡ length u.front
  same = let place : n ≡ length u.front + 1 = u.place in omega (arith, place)

  none_before : has_start u.front ≡ false
  none_before =
      subst (λ (ls : Lines). has_start ls ≡ false) (ap (λ (m : ℕ). take m (text_lines text)) same ∙ ap (λ (ls : Lines). take (length u.front) ls) u.parts ∙ take_front u.front (u.line ∷ u.rest)) none

  unfit : ¬ BeginsHead (u.front ++ u.line ∷ [])
  unfit b = u.none (begins_script (u.front ++ u.line ∷ []) b)

missing_head : (text : List ℕ) (n : ℕ) → has_start (take (n - 1) (text_lines text)) ≡ false → IsMissingLine text n → IsBadHead text n
missing_head text n none m = record {
  none = λ plan header rest h whole. no_header header plan (text_lines text) h none_at_all (record { more = rest; parts = whole });
  bad = inr (record { before = begins_head (text_lines text) none_at_all m.before; place = m.place });
} where
  same : n - 1 ≡ length (text_lines text)
  same = let place : n ≡ length (text_lines text) + 1 = m.place in omega (arith, place)

  none_at_all : has_start (text_lines text) ≡ false
  none_at_all =
      subst (λ (ls : Lines). has_start ls ≡ false)
      (ap (λ (m : ℕ). take m (text_lines text)) same ∙ ap (λ (ls : Lines). take (length (text_lines text)) ls) (sym (append-nil (text_lines text))) ∙ take_front (text_lines text) []) none

pub bad_head : (text : List ℕ) (n : ℕ) → has_start (take (n - 1) (text_lines text)) ≡ false → IsBadLine text n → IsBadHead text n
bad_head text n none (inl u) = unfit_head text n none u
bad_head text n none (inr m) = missing_head text n none m

-- what is told of a text that is refused
pub told_refused : (X : Type 0) (text : List ℕ) (f : ScriptFault) → IsHeadRefused text f → IfBadScript {X = X} (Err f) (λ n. IsBadHead text n)
told_refused X text (BadScript n) h = h
told_refused X text OutOfMemory h = tt
