-- A text is at most one script, and has at most one bad line.
use Rattle.std.proofs.Common.{◌≡◌, ℕ, ◌<◌, ◌≤◌, inl, inr, List, [], ◌∷◌, ◌++◌, length, map, Option, refl, sym, ap, subst, ◌∙◌, append_assoc, arith}
use Rattle.std.specs.List.{AllByRecursion}
use Rattle.std.proofs.lemmas.List.{append-nil, map-append, length-map}
use Rattle.grasp_text.specs.Words.{words_of}
use Rattle.grasp_model_network.specs.Plans.{IsGoodPlan}
use Rattle.grasp_model_network.specs.declared.plan.WorldPlan.{WorldPlan}
use Rattle.grasp_script.specs.Acts.{IsLine}
use Rattle.grasp_script.specs.Headers.{nodes_words, start_words, header_line_words, size_words, header_words, plan_told}
use Rattle.grasp_script.specs.Laws.{TextsHaveOneScript, TextsHaveOneBadLine, ScriptsHaveNoBadLine}
use Rattle.grasp_script.specs.Reads.{opening_words}
use Rattle.grasp_script.specs.Scripts.{text_lines, texts, IsHeader, IsItsLine, IsScript, IsNoScript, BeginsScript, IsUnfitLine}
use Rattle.grasp_script.specs.declared.header.HeaderLine.{HeaderLine}
use Rattle.grasp_script.specs.declared.line.Line.{Line}
use Rattle.grasp_script.proofs.HeaderLaws.{WordLines, not_start, start_no_size, next_line}
use Rattle.grasp_script.proofs.LineLaws.{line_one}

abbrev pub Lines : Type 0
Lines = List (List ℕ)

-- two divisions of the same lines, the first parts of one length
pub record Same (a b c d : Lines) : Type 0 where
  pub front : a ≡ b
  pub rest : c ≡ d

same_front : (a b c d : Lines) → a ++ c ≡ b ++ d → length a ≡ length b → Same a b c d
same_front [] [] c d e len = record { front = refl; rest = e }
same_front [] (y ∷ b) c d e len = absurd (omega arith)
same_front (x ∷ a) [] c d e len = absurd (omega arith)
same_front (x ∷ a) (y ∷ b) c d e len =
    let first : x ≡ y = cc in
    let others : a ++ c ≡ b ++ d = cc in
    let h = same_front a b c d others (omega arith) in
    record { front = (λ i. first i ∷ h.front i); rest = h.rest }

-- ---- one header

-- the words of a header are those before its last line, and that
pub header_parts : (nodes : ℕ) (size : Option ℕ) (told : List HeaderLine) (acts : WordLines) → header_words nodes size told ++ acts ≡ opening_words nodes size told ++ start_words ∷ acts
header_parts nodes size told acts =
    let sized : WordLines = size_words size in
    let middle : WordLines = map header_line_words told in
    ap (λ (t : WordLines). nodes_words nodes ∷ t) (
    append_assoc sized (middle ++ start_words ∷ []) acts
    ∙ ap (λ (t : WordLines). sized ++ t) (append_assoc middle (start_words ∷ []) acts)
    ∙ sym (append_assoc sized middle (start_words ∷ acts)))

pub good_told : (lines : Lines) (plan : WorldPlan) (h : IsHeader lines plan) → IsGoodPlan (plan_told plan.nodes h.size h.told)
good_told lines plan h = subst IsGoodPlan h.is_plan h.good

-- the words of lines that begin with a header
pub words_with : (header behind : Lines) (plan : WorldPlan) (h : IsHeader header plan) → map words_of (header ++ behind) ≡ header_words plan.nodes h.size h.told ++ map words_of behind
words_with header behind plan h = map-append words_of header behind ∙ ap (λ (t : WordLines). t ++ map words_of behind) h.spelled

pub record SameHeader (p q : WorldPlan) (a b c d : Lines) : Type 0 where
  pub plans : p ≡ q
  pub parts : Same a b c d

module _ (a b : Lines) (p q : WorldPlan) (h : IsHeader a p) (k : IsHeader b q) where
  ended_same : (c d : Lines) → a ++ c ≡ b ++ d → p.nodes ≡ q.nodes → h.size ≡ k.size → h.told ≡ k.told → SameHeader p q a b c d
  ended_same c d e nodes size told =
      let plans : plan_told p.nodes h.size h.told ≡ plan_told q.nodes k.size k.told = (λ i. plan_told (nodes i) (size i) (told i)) in
      let words : header_words p.nodes h.size h.told ≡ header_words q.nodes k.size k.told = (λ i. header_words (nodes i) (size i) (told i)) in
      record {
        plans = h.is_plan ∙ plans ∙ sym k.is_plan;
        parts = same_front a b c d e (sym (length-map a words_of) ∙ ap length (h.spelled ∙ words ∙ sym k.spelled) ∙ length-map b words_of);
      }

  pub same_header : (c d : Lines) → a ++ c ≡ b ++ d → SameHeader p q a b c d
  same_header c d e =
      let words : header_words p.nodes h.size h.told ++ map words_of c ≡ opening_words q.nodes k.size k.told ++ start_words ∷ map words_of d =
      sym (words_with a c p h) ∙ ap (map words_of) e ∙ words_with b d q k ∙ header_parts q.nodes k.size k.told (map words_of d) in
      let n = next_line q.nodes p.nodes k.size h.size k.told h.told start_words (map words_of c) (map words_of d) (good_told b q k) (good_told a p h) (λ none empty m limit is. start_no_size m is) words in
      elim n.next [
        | inl ends ↦ ended_same c d e n.same_nodes n.same_size ends.same
        | inr goes ↦ absurd (not_start goes.line goes.spelled)
      ]

-- ---- one script

module _ (nodes : ℕ) (few : nodes ≤ 255) where
  one_each : (a b : List Line) → AllByRecursion (IsItsLine nodes) a → AllByRecursion (IsItsLine nodes) b → texts a ≡ texts b → a ≡ b
  one_each [] [] p q e = refl
  one_each [] (y ∷ b) p q e = absurd cc
  one_each (x ∷ a) [] p q e = absurd cc
  one_each (x ∷ a) (y ∷ b) p q e =
      let text : x.text ≡ y.text = cc in
      let others : texts a ≡ texts b = cc in
      let meant : x.act ≡ y.act = line_one nodes few x.text x.act y.act p.0 (subst (λ (t : List ℕ). IsLine nodes t y.act) (sym text) q.0) in
      let same : x ≡ y = (λ i. record { text = text i; act = meant i }) in
      (λ i. same i ∷ one_each a b p.1 q.1 others i)

few_nodes : (lines : Lines) (plan : WorldPlan) → IsHeader lines plan → plan.nodes ≤ 255
few_nodes lines plan h = let most = h.good.most_nodes in omega arith

pub one_script : TextsHaveOneScript
one_script text p q a b s t =
    let h = same_header s.header t.header p q s.is_header t.is_header (texts a) (texts b) (sym s.parts ∙ t.parts) in
    (h.plans, one_each p.nodes (few_nodes s.header p s.is_header) a b s.meant (subst (λ (x : WorldPlan). AllByRecursion (IsItsLine x.nodes) b) (sym h.plans) t.meant) h.parts.rest)

-- ---- beginnings

pub begins_before : (a b : Lines) → BeginsScript (a ++ b) → BeginsScript a
begins_before a b h = record { plan = h.plan; header = h.header; lines = h.lines; more = b ++ h.more; is_header = h.is_header; meant = h.meant; parts = h.parts ∙ append_assoc a b h.more }

script_begins : (text : List ℕ) (plan : WorldPlan) (lines : List Line) → IsScript text plan lines → BeginsScript (text_lines text)
script_begins text plan lines s = record { plan = plan; header = s.header; lines = lines; more = []; is_header = s.is_header; meant = s.meant; parts = sym s.parts ∙ sym (append-nil (text_lines text)) }

begins_to : (text : List ℕ) (u : (n : ℕ) × IsUnfitLine text n) → BeginsScript (text_lines text) → BeginsScript (u.1.front ++ u.1.line ∷ [])
begins_to text u h = begins_before (u.1.front ++ u.1.line ∷ []) u.1.rest (subst BeginsScript (u.1.parts ∙ sym (append_assoc u.1.front (u.1.line ∷ []) u.1.rest)) h)

unfit_no_beginning : (text : List ℕ) (n : ℕ) → IsUnfitLine text n → ¬ BeginsScript (text_lines text)
unfit_no_beginning text n u h = u.none (begins_to text (n, u) h)

pub unfit_no_script : (text : List ℕ) (n : ℕ) → IsUnfitLine text n → IsNoScript text
unfit_no_script text n u plan lines s = unfit_no_beginning text n u (script_begins text plan lines s)

-- ---- one bad line

module _ (x y : List ℕ) where
  first_differs : (front rest other more : Lines) → front ++ x ∷ rest ≡ other ++ more → length front < length other → (others : Lines) × (other ≡ front ++ x ∷ others)
  first_differs [] rest [] more e lt = absurd (omega arith)
  first_differs [] rest (z ∷ other) more e lt = (other, let same : x ≡ z = cc in ap (λ (w : List ℕ). w ∷ other) (sym same))
  first_differs (w ∷ front) rest [] more e lt = absurd (omega arith)
  first_differs (w ∷ front) rest (z ∷ other) more e lt =
      let tail : front ++ x ∷ rest ≡ other ++ more = cc in
      let head : w ≡ z = cc in
      let h = first_differs front rest other more tail (omega arith) in
      (h.0, (λ i. sym head i ∷ h.1 i))

earlier : (text : List ℕ) (m n : ℕ) (a : IsUnfitLine text m) (b : IsUnfitLine text n) → ¬ (length a.front < length b.front)
earlier text m n a b lt =
    let d = first_differs a.line b.line a.front a.rest b.front (b.line ∷ b.rest) (sym a.parts ∙ b.parts) lt in
    a.none (begins_before (a.front ++ a.line ∷ []) d.0 (subst BeginsScript (d.1 ∙ sym (append_assoc a.front (a.line ∷ []) d.0)) b.before))

pub one_bad_line : TextsHaveOneBadLine
one_bad_line text m n (inl a) (inl b) = omega (arith, a.place, b.place, earlier text m n a b, earlier text n m b a)
one_bad_line text m n (inl a) (inr b) = absurd (unfit_no_beginning text m a b.before)
one_bad_line text m n (inr a) (inl b) = absurd (unfit_no_beginning text n b a.before)
one_bad_line text m n (inr a) (inr b) = a.place ∙ sym b.place

pub no_bad_line : ScriptsHaveNoBadLine
no_bad_line text plan lines n s (inl u) = unfit_no_script text n u plan lines s
no_bad_line text plan lines n s (inr m) = m.none plan lines s
