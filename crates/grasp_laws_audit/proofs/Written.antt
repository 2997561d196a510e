-- The record of a script's run, as it is written, has its lines.
use Rattle.std.proofs.Common.{◌≡◌, refl, sym, ap, ◌∙◌, subst, arith, ℕ, ◌≤◌, Bool, true, false, cond, eqb, List, [], ◌∷◌, ◌++◌, append_assoc, map}
use Rattle.std.specs.List.{onto_first, slice_split}
use Rattle.std.proofs.lemmas.Bool.{eqb-false}
use Rattle.std.proofs.lemmas.List.{map-append}
use Rattle.grasp_laws_draws.proofs.LineEnds.{HasNoEnd, byte_ends, lines_again, nothing_ends}
use Rattle.grasp_script_draws.specs.Generator.{lines_text}
use Rattle.grasp_script.specs.Scripts.{IsHeader, text_lines, texts, unless_empty, without_empty_end}
use Rattle.grasp_model_network.specs.Runs.{world_of}
use Rattle.grasp_model_network.specs.Setting.{Setting, script_setting}
use Rattle.grasp_model_network.specs.World.{WorldState}
use Rattle.grasp_model_network.specs.declared.plan.WorldPlan.{WorldPlan}
use Rattle.grasp_model_script.specs.LineRuns.{LineRun, after_line}
use Rattle.grasp_record.specs.Records.{record_line}
use Rattle.grasp_record.specs.declared.line.RecordLine.{RecordLine}
use Rattle.grasp_model_audit.specs.RecordRuns.{recorded_from}
use Rattle.grasp_model_audit.specs.Recording.{act_lines, ended_lines, record_text}
use Rattle.grasp_laws_audit.proofs.ReadBack.{line_same}
use Rattle.grasp_laws_audit.proofs.Unbroken.{AreUnbroken, line_unbroken}
use Rattle.grasp_laws_audit.specs.ReadBack.{AreReadable, read_back}
use Rattle.grasp_laws_audit.specs.Recorded.{RecordLinesHold, lines_from}
use Rattle.grasp_laws_audit.specs.Written.{RecordsAreAudited}

-- ---- lines of a text

abbrev Lines : Type 0
Lines = List (List ℕ)

onto : (x : ℕ) (parts : Lines) → ¬ (x ≡ 10) → AreUnbroken parts → AreUnbroken (onto_first x parts)
onto x [] other h = (byte_ends x [] other nothing_ends, tt)
onto x (part ∷ parts) other h = (byte_ends x part other h.0, h.1)

parts_unbroken : (s : List ℕ) → AreUnbroken (slice_split (λ b. eqb b 10) s)
parts_unbroken [] = (nothing_ends, tt)
parts_unbroken (x ∷ s) = by_byte (eqb x 10) refl (parts_unbroken s) where
  by_byte : (b : Bool) → eqb x 10 ≡ b → AreUnbroken (slice_split (λ c. eqb c 10) s) → AreUnbroken (cond b ([] ∷ slice_split (λ c. eqb c 10) s) (onto_first x (slice_split (λ c. eqb c 10) s)))
  by_byte true e rest = (nothing_ends, rest)
  by_byte false e rest = onto x (slice_split (λ c. eqb c 10) s) (eqb-false x 10 e) rest

unless_unbroken : (line : List ℕ) → HasNoEnd line → AreUnbroken (unless_empty line)
unless_unbroken [] h = tt
unless_unbroken (x ∷ line) h = (h, tt)

without_unbroken : (ls : Lines) → AreUnbroken ls → AreUnbroken (without_empty_end ls)
without_unbroken [] h = tt
without_unbroken (line ∷ []) h = unless_unbroken line h.0
without_unbroken (line ∷ next ∷ ls) h = (h.0, without_unbroken (next ∷ ls) h.1)

-- no line of a text holds a line end
text_unbroken : (text : List ℕ) → AreUnbroken (text_lines text)
unfolding text_lines
text_unbroken text = without_unbroken (slice_split (λ b. eqb b 10) text) (parts_unbroken text)

front_unbroken : (xs ys : Lines) → AreUnbroken (xs ++ ys) → AreUnbroken xs
front_unbroken [] ys h = tt
front_unbroken (x ∷ xs) ys h = (h.0, front_unbroken xs ys h.1)

both_unbroken : (xs ys : Lines) → AreUnbroken xs → AreUnbroken ys → AreUnbroken (xs ++ ys)
both_unbroken [] ys p q = q
both_unbroken (x ∷ xs) ys p q = (p.0, both_unbroken xs ys p.1 q)

-- ---- lines that are ended

ended_is : (ls : Lines) → ended_lines ls ≡ lines_text ls
unfolding lines_text
ended_is [] = refl
ended_is (l ∷ ls) = ap (λ (rest : List ℕ). l ++ 10 ∷ rest) (ended_is ls)

ended_again : (ls : Lines) → AreUnbroken ls → text_lines (ended_lines ls) ≡ ls
ended_again ls h = ap text_lines (ended_is ls) ∙ lines_again ls h

ended_joined : (xs ys : Lines) → ended_lines (xs ++ ys) ≡ ended_lines xs ++ ended_lines ys
ended_joined [] ys = refl
ended_joined (x ∷ xs) ys = ap (λ (rest : List ℕ). x ++ 10 ∷ rest) (ended_joined xs ys) ∙ sym (append_assoc x (10 ∷ ended_lines xs) (ended_lines ys))

recorded_is : (s : Setting) (xs : List LineRun) (w : WorldState) → recorded_from s w xs ≡ ended_lines (map record_line (lines_from s w xs))
unfolding recorded_from record_text lines_from
recorded_is s [] w = refl
recorded_is s (x ∷ xs) w =
    let here = act_lines s w x.line.act x.choice in
    let rest = lines_from s (after_line s w x) xs in
    ap (λ (more : List ℕ). ended_lines (map record_line here) ++ more) (recorded_is s xs (after_line s w x))
    ∙ sym (ended_joined (map record_line here) (map record_line rest))
    ∙ ap ended_lines (sym (map-append record_line here rest))

-- ---- the record

records_unbroken : (nodes : ℕ) → nodes ≤ 255 → (ys : List RecordLine) → AreReadable nodes ys → AreUnbroken (map record_line ys)
records_unbroken nodes few [] h = tt
records_unbroken nodes few (y ∷ ys) h = (subst HasNoEnd (line_same y) (line_unbroken nodes few (read_back y) h.0), records_unbroken nodes few ys h.1)

few_nodes : (plan : WorldPlan) (header : Lines) → IsHeader header plan → plan.nodes ≤ 255
few_nodes plan header h = let most = h.good.most_nodes in omega (arith, most)

pub records_are_audited : RecordLinesHold → RecordsAreAudited
records_are_audited hold text written r readable = hold.texts written r.header r.plan r.run r.script.is_header r.safely.may_run readable lines where
  s : Setting
  s = script_setting r.plan

  records : Lines
  records = map record_line (lines_from s (world_of r.plan) r.run)

  unbroken : AreUnbroken (r.header ++ records)
  unbroken =
      both_unbroken r.header records (front_unbroken r.header (texts r.lines) (subst AreUnbroken r.script.parts (text_unbroken text)))
      (records_unbroken r.plan.nodes (few_nodes r.plan r.header r.script.is_header) (lines_from s (world_of r.plan) r.run) readable)

  whole : written ≡ ended_lines (r.header ++ records)
  whole = r.told ∙ ap (λ (more : List ℕ). ended_lines r.header ++ more) (recorded_is s r.run (world_of r.plan)) ∙ sym (ended_joined r.header records)

  lines : text_lines written ≡ r.header ++ records
  lines = ap text_lines whole ∙ ended_again (r.header ++ records) unbroken
