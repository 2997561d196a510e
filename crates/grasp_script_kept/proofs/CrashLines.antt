-- The line of a crash is read where its words are, and nowhere else; and a line means one thing at most.
use Rattle.std.proofs.Common.{◌≡◌, ℕ, ◌≤◌, ◌<◌, ◌^◌, List, [], Option, Some, None, Result, Ok, Err, refl, sym, ap, subst, ◌∙◌}
use Rattle.std.specs.Prelude.{IfOk, IfSome, IfNone, codes}
use Rattle.std.specs.Str.{IsUtf8}
use Rattle.grasp_disk.specs.declared.left.Left.{Left}
use Rattle.grasp_disk.specs.declared.left.Left.TheVariants.{Old, New, Torn}
use Rattle.grasp_text.specs.Readers.{IsWordReader}
use Rattle.grasp_text.specs.Reading.{exactly}
use Rattle.grasp_text.specs.Words.{words_of}
use Rattle.grasp_text.proofs.Lawful.{ok_is}
use Rattle.grasp_model_network.specs.Plans.{IsNode}
use Rattle.grasp_script.specs.Acts.{IsLine, IsNoLine}
use Rattle.grasp_script.specs.Grammar.{act_at, first_of}
use Rattle.grasp_script.specs.declared.line.LineAct.{LineAct}
use Rattle.grasp_script.proofs.ActLaws.{act_found}
use Rattle.grasp_script.proofs.Fields.{after, ended, taken}
use Rattle.grasp_script.proofs.LineLaws.{line_one}
use Rattle.grasp_text.proofs.Leaves.{no_more, one_of}
use Rattle.grasp_script.proofs.WordReaders.{Any, read64, read_node, small64, within64}
use Rattle.grasp_script_kept.specs.Laws.{KeptLinesMeanOneThing}
use Rattle.grasp_script_kept.specs.Lines.{IsCrashLine, IsKeptLine, IsNoKeptLine, crash_words, kept_text, left_word}
use Rattle.grasp_script_kept.specs.Reading.{CrashWords, IsCrashOf, crash_at, crash_words_of, left_of}
use Rattle.grasp_script_kept.specs.declared.crash.Crash.{Crash}
use Rattle.grasp_script_kept.specs.declared.line.KeptLine.{KeptLine}
use Rattle.grasp_script_kept.specs.declared.line.KeptLine.TheVariants as line

-- ---- words

left_found : (l : Left) → Any l → left_of (left_word l) ≡ Some l
unfolding left_of
left_found Old u = refl
left_found New u = refl
left_found Torn u = refl

left_only : (w : List ℕ) (l : Left) → left_of w ≡ Some l → (w ≡ left_word l) × Any l
unfolding left_of
left_only w l e = (one_of left_word l Old w (codes "old") _ refl (one_of left_word l New w (codes "new") _ refl (one_of left_word l Torn w (codes "torn") None refl (no_more l _))) e, tt)

read_left : IsWordReader Any left_word left_of
read_left = record { found = left_found; only = left_only }

crash_word : Unit {0} → List ℕ
crash_word u = codes "crash"

name_found : (u : Unit {0}) → Any u → exactly (codes "crash") (crash_word u) ≡ Some u
unfolding crash_word
name_found tt h = refl

name_only : (w : List ℕ) (u : Unit {0}) → exactly (codes "crash") w ≡ Some u → (w ≡ crash_word u) × Any u
unfolding crash_word
name_only w u e = (one_of crash_word u tt w (codes "crash") None refl (no_more u _) e, tt)

read_name : IsWordReader Any crash_word (exactly (codes "crash"))
read_name = record { found = name_found; only = name_only }

-- ---- the words of a crash

pub record IsCrash (nodes : ℕ) (ws : List (List ℕ)) (c : CrashWords) : Type 0 where
  pub is_node : IsNode nodes c.node
  pub calls_fit : c.calls < 2 ^ 64
  pub spelled : ws ≡ crash_words c.node c.calls c.left

module _ (nodes : ℕ) (few : nodes ≤ 255) where
  pub crash_only : (ws : List (List ℕ)) (x : CrashWords × List (List ℕ)) → crash_at nodes ws ≡ Ok x → IsCrash nodes ws x.0
  unfolding crash_at crash_word
  crash_only ws x e =
      let n = taken read_name _ ws x e in
      let a = taken (read_node nodes few) _ n.rest x n.more in
      let b = taken read64 _ a.rest x a.more in
      let l = taken read_left _ b.rest x b.more in
      let z = ended (record { node = a.first; calls = b.first; left = l.first }) l.rest x l.more in
      subst (λ (c : CrashWords). IsCrash nodes ws c) (sym z.value) (record {
        is_node = a.is;
        calls_fit = small64 b.is;
        spelled = after n.parts (after a.parts (after b.parts (after l.parts z.words)));
      })

  pub crash_found : (node calls : ℕ) (left : Left) → IsNode nodes node → calls < 2 ^ 64 → crash_at nodes (crash_words node calls left) ≡ Ok (record { node = node; calls = calls; left = left }, [])
  unfolding crash_at
  crash_found node calls left is fit = rw ((read_node nodes few).found node is, read64.found calls (within64 fit), left_found left tt) refl

-- ---- no other line begins so

no_crash : (nodes : ℕ) → nodes ≤ 255 → (a : LineAct) (node calls : ℕ) (left : Left) (text : List ℕ) → IsLine nodes text a → words_of text ≡ crash_words node calls left → ⊥
unfolding act_at first_of
no_crash nodes few a node calls left text is words =
    let found = act_found nodes few a is.ranges
    in let other = ap (act_at nodes) (sym words ∙ is.spelled) ∙ found
    in cc

-- ---- lines

crash_line_none : (nodes : ℕ) → nodes ≤ 255 → (text : List ℕ) (n : ℕ) → crash_at nodes (words_of text) ≡ Err n → (node calls : ℕ) (left : Left) → ¬ IsCrashLine nodes text node calls left
crash_line_none nodes few text n bad node calls left is =
    let found = ap (crash_at nodes) is.spelled ∙ crash_found nodes few node calls left is.is_node is.calls_fit
    in let z = sym bad ∙ found in cc

-- neither a crash nor another line
pub none_kept : (nodes : ℕ) → nodes ≤ 255 → (text : List ℕ) (n : ℕ) → crash_at nodes (words_of text) ≡ Err n → IsNoLine nodes text → IsNoKeptLine nodes text
none_kept nodes few text n bad none (line.Plain x) same is = none x.act (subst (λ (t : List ℕ). IsLine nodes t x.act) same is)
none_kept nodes few text n bad none (line.Crash t node calls left) same is =
    crash_line_none nodes few text n bad node calls left (subst (λ (u : List ℕ). IsCrashLine nodes u node calls left) same is)

-- a line that is no text
pub no_text : (nodes : ℕ) (text : List ℕ) → ¬ IsUtf8 text → IsNoKeptLine nodes text
no_text nodes text none (line.Plain x) same is = none (subst IsUtf8 same is.text)
no_text nodes text none (line.Crash t node calls left) same is = none (subst IsUtf8 same is.is_text)

crash_is : (nodes : ℕ) → nodes ≤ 255 → (text : List ℕ) (c : Crash) (over : List (List ℕ)) (x : KeptLine) → crash_at nodes (words_of text) ≡ Ok (crash_words_of c, over) → IsUtf8 text → kept_text x ≡ text → IsCrashOf c x → IsKeptLine nodes x
crash_is nodes few text c over (line.Plain x) e utf8 same of = absurd of
crash_is nodes few text c over (line.Crash t node calls left) e utf8 same of =
    let is : IsCrash nodes (words_of text) (crash_words_of c) = crash_only nodes few (words_of text) (crash_words_of c, over) e
    in record {
      is_node = subst (λ (n : ℕ). IsNode nodes n) (sym of.0) is.is_node;
      calls_fit = subst (λ (n : ℕ). n < 2 ^ 64) (sym of.1) is.calls_fit;
      is_text = subst IsUtf8 (sym same) utf8;
      spelled = ap words_of same ∙ is.spelled ∙ (λ i. crash_words (sym of.0 i) (sym of.1 i) (sym of.2 i));
    }

-- what is told of the line of a crash
pub told_crash : {E : Type 0} (r : Result (Option KeptLine) E) (nodes : ℕ) → nodes ≤ 255 → (text : List ℕ) (c : Crash) (over : List (List ℕ)) → crash_at nodes (words_of text) ≡ Ok (crash_words_of c, over)
    → IfOk r (λ o. IfSome o (λ x. kept_text x ≡ text)) → IfOk r (λ o. IfSome o (λ x. IsCrashOf c x)) → IfOk r (λ o. IfSome o (λ x. IsUtf8 text)) → IfOk r (λ o. IfSome o (λ x. IsKeptLine nodes x))
told_crash (Ok (Some x)) nodes few text c over e same of utf8 = crash_is nodes few text c over x e utf8 same of
told_crash (Ok None) nodes few text c over e same of utf8 = tt
told_crash (Err y) nodes few text c over e same of utf8 = tt

pub told_none : {E : Type 0} (r : Result (Option KeptLine) E) (nodes : ℕ) (text : List ℕ) → IfOk r (λ o. IfNone o (¬ IsUtf8 text)) → IfOk r (λ o. IfNone o (IsNoKeptLine nodes text))
told_none (Ok (Some x)) nodes text h = tt
told_none (Ok None) nodes text h = no_text nodes text h
told_none (Err y) nodes text h = tt

-- ---- a line means one thing at most

same_crash : (nodes : ℕ) → nodes ≤ 255 → (t u : List ℕ) (m n a b : ℕ) (l r : Left) → t ≡ u → IsCrashLine nodes t m a l → IsCrashLine nodes u n b r → line.Crash t m a l ≡ line.Crash u n b r
same_crash nodes few t u m n a b l r same p q =
    let one = sym (crash_found nodes few m a l p.is_node p.calls_fit) ∙ ap (crash_at nodes) (sym p.spelled ∙ ap words_of same ∙ q.spelled) ∙ crash_found nodes few n b r q.is_node q.calls_fit
    in let c : CrashWords × List (List ℕ) = (record { node = m; calls = a; left = l }, [])
    in let d : CrashWords × List (List ℕ) = (record { node = n; calls = b; left = r }, [])
    in let is : c ≡ d = ok_is c d one
    in λ i. line.Crash (same i) (is i).0.node (is i).0.calls (is i).0.left

pub kept_one : (nodes : ℕ) → nodes ≤ 255 → (x y : KeptLine) → kept_text x ≡ kept_text y → IsKeptLine nodes x → IsKeptLine nodes y → x ≡ y
kept_one nodes few (line.Plain x) (line.Plain y) same p q =
    let acts : x.act ≡ y.act = line_one nodes few x.text x.act y.act p (subst (λ (t : List ℕ). IsLine nodes t y.act) (sym same) q)
    in λ i. line.Plain (record { text = same i; act = acts i })
kept_one nodes few (line.Plain x) (line.Crash u n b r) same p q = absurd (no_crash nodes few x.act n b r x.text p (ap words_of same ∙ q.spelled))
kept_one nodes few (line.Crash t m a l) (line.Plain y) same p q = absurd (no_crash nodes few y.act m a l y.text q (ap words_of (sym same) ∙ p.spelled))
kept_one nodes few (line.Crash t m a l) (line.Crash u n b r) same p q = same_crash nodes few t u m n a b l r same p q

pub kept_lines_mean_one_thing : KeptLinesMeanOneThing
kept_lines_mean_one_thing nodes x y few same p q = kept_one nodes few x y same p q
