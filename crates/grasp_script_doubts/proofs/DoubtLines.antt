-- A doubter's line is read where its words are, and nowhere else; and a line means one thing at most.
use Rattle.std.proofs.Common.{◌≡◌, ℕ, ◌≤◌, true, false, List, [], ◌∷◌, Option, Some, None, Result, Ok, Err, refl, sym, ap, subst, ◌∙◌}
use Rattle.std.specs.Prelude.{IfOk, IfSome, IfNone, codes}
use Rattle.std.specs.Str.{IsUtf8}
use Rattle.grasp_text.specs.Readers.{IsWordReader}
use Rattle.grasp_text.specs.Words.{words_of}
use Rattle.grasp_text.proofs.Lawful.{ok_is}
use Rattle.grasp_text.proofs.Leaves.{no_more, one_of}
use Rattle.grasp_types.specs.Prefix.{AddressBlock as Prefix, IsPrefix}
use Rattle.grasp_model_network.specs.Plans.{IsNode}
use Rattle.grasp_script.specs.Acts.{IsAct, IsLine, IsNoLine, act_words}
use Rattle.grasp_script.specs.Grammar.{act_at, first_of}
use Rattle.grasp_script.specs.declared.line.LineAct.{LineAct}
use Rattle.grasp_script.proofs.ActLaws.{act_found}
use Rattle.grasp_script.proofs.Fields.{Means, after, ended, taken}
use Rattle.grasp_script.proofs.LineLaws.{line_one}
use Rattle.grasp_script.proofs.WordReaders.{Any, read_node, read_prefix}
use Rattle.grasp_script_doubts.specs.Laws.{DoubtLinesMeanOneThing}
use Rattle.grasp_script_doubts.specs.Lines.{HasNoPlain, IsDoubtAct, IsDoubtLine, IsNoDoubtLine, ask_words, doubt_words, doubter_words, makes_own}
use Rattle.grasp_script_doubts.specs.Reading.{ask_at, doubt_word_of, doubter_at, doubts_at, of_doubts_at}
use Rattle.grasp_script_doubts.specs.declared.line.DoubtLine.{DoubtLine}
use Rattle.grasp_script_doubts.specs.declared.line.DoubtLineAct.{DoubtLineAct}
use Rattle.grasp_script_doubts.specs.declared.line.DoubtLineAct.TheVariants as act
use Rattle.grasp_script_doubts.specs.declared.words.DoubtWord.{DoubtWord}
use Rattle.grasp_script_doubts.specs.declared.words.DoubtWord.TheVariants as word

-- ---- first words

spelled : DoubtWord → List ℕ
spelled word.Doubter = codes "doubter"
spelled word.Ask = codes "ask"

word_found : (n : DoubtWord) → Any n → doubt_word_of (spelled n) ≡ Some n
unfolding doubt_word_of spelled
word_found word.Doubter u = refl
word_found word.Ask u = refl

word_only : (w : List ℕ) (n : DoubtWord) → doubt_word_of w ≡ Some n → (w ≡ spelled n) × Any n
unfolding doubt_word_of spelled
word_only w n e = (one_of spelled n word.Doubter w (codes "doubter") _ refl (one_of spelled n word.Ask w (codes "ask") None refl (no_more n _)) e, tt)

read_word : IsWordReader Any spelled doubt_word_of
read_word = record { found = word_found; only = word_only }

-- ---- a doubter's line

module _ (nodes : ℕ) (few : nodes ≤ 255) where
  abbrev Says : DoubtLineAct → List (List ℕ) → Type 0
  Says a ws = Means (IsDoubtAct nodes) doubt_words a ws

  doubter_only : (ws : List (List ℕ)) (x : DoubtLineAct × List (List ℕ)) → doubter_at nodes ws ≡ Ok x → Says x.0 (codes "doubter" ∷ ws)
  unfolding doubter_at
  doubter_only ws x e =
      let a = taken (read_node nodes few) _ ws x e in
      let z = ended (act.Doubter a.first) a.rest x a.more in
      subst (λ (y : DoubtLineAct). Says y (codes "doubter" ∷ ws)) (sym z.value) (record {
        ranges = a.is;
        spelled = ap (λ (t : List (List ℕ)). codes "doubter" ∷ t) (after a.parts z.words);
      })

  ask_only : (ws : List (List ℕ)) (x : DoubtLineAct × List (List ℕ)) → ask_at nodes ws ≡ Ok x → Says x.0 (codes "ask" ∷ ws)
  unfolding ask_at
  ask_only ws x e =
      let a = taken (read_node nodes few) _ ws x e in
      let b = taken read_prefix _ a.rest x a.more in
      let c = taken (read_node nodes few) _ b.rest x b.more in
      let z = ended (act.Ask a.first b.first c.first) c.rest x c.more in
      subst (λ (y : DoubtLineAct). Says y (codes "ask" ∷ ws)) (sym z.value) (record {
        ranges = (a.is, b.is, c.is);
        spelled = ap (λ (t : List (List ℕ)). codes "ask" ∷ t) (after a.parts (after b.parts (after c.parts z.words)));
      })

  of_doubts_only : (n : DoubtWord) (ws : List (List ℕ)) (x : DoubtLineAct × List (List ℕ)) → of_doubts_at nodes n ws ≡ Ok x → Says x.0 (spelled n ∷ ws)
  unfolding spelled
  of_doubts_only word.Doubter ws x e = doubter_only ws x e
  of_doubts_only word.Ask ws x e = ask_only ws x e

  pub doubts_only : (ws : List (List ℕ)) (x : DoubtLineAct × List (List ℕ)) → doubts_at nodes ws ≡ Ok x → Says x.0 ws
  unfolding doubts_at
  doubts_only ws x e =
      let a = taken read_word _ ws x e in
      let m = of_doubts_only a.first a.rest x a.more in
      record { ranges = m.ranges; spelled = a.parts ∙ m.spelled }

  pub doubter_found : (node : ℕ) → IsNode nodes node → doubts_at nodes (doubter_words node) ≡ Ok (act.Doubter node, [])
  unfolding doubts_at doubter_at doubt_word_of
  doubter_found node is = rw ((read_node nodes few).found node is) refl

  pub ask_found : (node : ℕ) (prefix : Prefix) (peer : ℕ) → IsNode nodes node → IsPrefix prefix.address prefix.length → IsNode nodes peer → doubts_at nodes (ask_words node prefix peer) ≡ Ok (act.Ask node prefix peer, [])
  unfolding doubts_at ask_at doubt_word_of
  ask_found node prefix peer is valid other = rw ((read_node nodes few).found node is, read_prefix.found prefix valid, (read_node nodes few).found peer other) refl

  -- ---- no other line begins so

  no_doubter : (a : LineAct) (node : ℕ) (line : List ℕ) → IsAct nodes a → words_of line ≡ act_words a → words_of line ≡ doubter_words node → ⊥
  unfolding act_at first_of
  no_doubter a node line ranges says words =
      let found = act_found nodes few a ranges
      in let other = ap (act_at nodes) (sym words ∙ says) ∙ found
      in cc

  no_ask : (a : LineAct) (node : ℕ) (prefix : Prefix) (peer : ℕ) (line : List ℕ) → IsAct nodes a → words_of line ≡ act_words a → words_of line ≡ ask_words node prefix peer → ⊥
  unfolding act_at first_of
  no_ask a node prefix peer line ranges says words =
      let found = act_found nodes few a ranges
      in let other = ap (act_at nodes) (sym words ∙ says) ∙ found
      in cc

  -- ---- lines

  says_doubter : (line : List ℕ) (node : ℕ) → IsDoubtLine nodes line (act.Doubter node) → doubts_at nodes (words_of line) ≡ Ok (act.Doubter node, [])
  says_doubter line node is = ap (doubts_at nodes) is.spelled ∙ doubter_found node is.ranges

  says_ask : (line : List ℕ) (node : ℕ) (prefix : Prefix) (peer : ℕ) → IsDoubtLine nodes line (act.Ask node prefix peer) → doubts_at nodes (words_of line) ≡ Ok (act.Ask node prefix peer, [])
  says_ask line node prefix peer is = ap (doubts_at nodes) is.spelled ∙ ask_found node prefix peer is.ranges.0 is.ranges.1 is.ranges.2

  -- neither a doubter's line nor one of any script that may stand here
  pub none_meant : (line : List ℕ) (n : ℕ) → doubts_at nodes (words_of line) ≡ Err n → HasNoPlain nodes line → IsNoDoubtLine nodes line
  none_meant line n bad none (act.Plain a) is =
      let other : makes_own a ≡ true = none a (record { ranges = is.ranges.0; text = is.text; spelled = is.spelled }) in
      let z : true ≡ false = sym other ∙ is.ranges.1 in
      cc
  none_meant line n bad none (act.Doubter node) is = let z = sym bad ∙ says_doubter line node is in cc
  none_meant line n bad none (act.Ask node prefix peer) is = let z = sym bad ∙ says_ask line node prefix peer is in cc

  pub meant : (line : List ℕ) (a : DoubtLineAct) (left : List (List ℕ)) → doubts_at nodes (words_of line) ≡ Ok (a, left) → IsUtf8 line → IsDoubtLine nodes line a
  meant line a left e utf8 = let m = doubts_only (words_of line) (a, left) e in record { ranges = m.ranges; text = utf8; spelled = m.spelled }

  -- ---- a line means one thing at most

  one_read : (ws : List (List ℕ)) (a b : DoubtLineAct) → doubts_at nodes ws ≡ Ok (a, []) → doubts_at nodes ws ≡ Ok (b, []) → a ≡ b
  one_read ws a b p q = ap (λ (x : DoubtLineAct × List (List ℕ)). x.0) (ok_is (a, []) (b, []) (sym p ∙ q))

  pub doubt_one : (line : List ℕ) (a b : DoubtLineAct) → IsDoubtLine nodes line a → IsDoubtLine nodes line b → a ≡ b
  doubt_one line (act.Plain a) (act.Plain b) p q =
      ap act.Plain (line_one nodes few line a b (record { ranges = p.ranges.0; text = p.text; spelled = p.spelled }) (record { ranges = q.ranges.0; text = q.text; spelled = q.spelled }))
  doubt_one line (act.Plain a) (act.Doubter node) p q = absurd (no_doubter a node line p.ranges.0 p.spelled q.spelled)
  doubt_one line (act.Plain a) (act.Ask node prefix peer) p q = absurd (no_ask a node prefix peer line p.ranges.0 p.spelled q.spelled)
  doubt_one line (act.Doubter node) (act.Plain b) p q = absurd (no_doubter b node line q.ranges.0 q.spelled p.spelled)
  doubt_one line (act.Doubter node) (act.Doubter other) p q = one_read (words_of line) (act.Doubter node) (act.Doubter other) (says_doubter line node p) (says_doubter line other q)
  doubt_one line (act.Doubter node) (act.Ask other prefix peer) p q = one_read (words_of line) (act.Doubter node) (act.Ask other prefix peer) (says_doubter line node p) (says_ask line other prefix peer q)
  doubt_one line (act.Ask node prefix peer) (act.Plain b) p q = absurd (no_ask b node prefix peer line q.ranges.0 q.spelled p.spelled)
  doubt_one line (act.Ask node prefix peer) (act.Doubter other) p q = one_read (words_of line) (act.Ask node prefix peer) (act.Doubter other) (says_ask line node prefix peer p) (says_doubter line other q)
  doubt_one line (act.Ask node prefix peer) (act.Ask other q_prefix q_peer) p q =
      one_read (words_of line) (act.Ask node prefix peer) (act.Ask other q_prefix q_peer) (says_ask line node prefix peer p) (says_ask line other q_prefix q_peer q)

pub doubt_lines_mean_one_thing : DoubtLinesMeanOneThing
doubt_lines_mean_one_thing nodes line a b few p q = doubt_one nodes few line a b p q

-- ---- what is told of a line with its text

pub told_meant : {E : Type 0} (r : Result (Option DoubtLine) E) (nodes : ℕ) → nodes ≤ 255 → (line : List ℕ) (a : DoubtLineAct) (left : List (List ℕ)) → doubts_at nodes (words_of line) ≡ Ok (a, left)
    → IfOk r (λ o. IfSome o (λ x. x.act ≡ a)) → IfOk r (λ o. IfSome o (λ x. IsUtf8 line)) → IfOk r (λ o. IfSome o (λ x. IsDoubtLine nodes line x.act))
told_meant (Ok (Some x)) nodes few line a left e same utf8 = subst (λ (b : DoubtLineAct). IsDoubtLine nodes line b) (sym same) (meant nodes few line a left e utf8)
told_meant (Ok None) nodes few line a left e same utf8 = tt
told_meant (Err y) nodes few line a left e same utf8 = tt

pub told_none : {E : Type 0} (r : Result (Option DoubtLine) E) (nodes : ℕ) (line : List ℕ) → IfOk r (λ o. IfNone o (¬ IsUtf8 line)) → IfOk r (λ o. IfNone o (IsNoDoubtLine nodes line))
told_none (Ok (Some x)) nodes line h = tt
told_none (Ok None) nodes line h = λ a is. h is.text
told_none (Err y) nodes line h = tt

-- where no doubter's line is
pub told_other : {E : Type 0} (r : Result (Option DoubtLine) E) (nodes : ℕ) → nodes ≤ 255 → (line : List ℕ) (n : ℕ) → doubts_at nodes (words_of line) ≡ Err n → IfOk r (λ o. IfNone o (HasNoPlain nodes line)) → IfOk r (λ o. IfNone o (IsNoDoubtLine nodes line))
told_other (Ok (Some x)) nodes few line n bad h = tt
told_other (Ok None) nodes few line n bad h = none_meant nodes few line n bad h
told_other (Err y) nodes few line n bad h = tt

-- ---- a line of any script

pub plain_meant : (nodes : ℕ) (line : List ℕ) (a : LineAct) (o : Option DoubtLine) → IsLine nodes line a → IfSome o (λ x. x.act ≡ act.Plain a) → IfSome o (λ x. makes_own a ≡ false) → IfSome o (λ x. IsDoubtLine nodes line x.act)
plain_meant nodes line a (Some x) is same other =
    subst (λ (b : DoubtLineAct). IsDoubtLine nodes line b) (sym same) (record { ranges = (is.ranges, other); text = is.text; spelled = is.spelled })
plain_meant nodes line a None is same other = tt

pub plain_text : (text line : List ℕ) (o : Option DoubtLine) → text ≡ line → IfSome o (λ x. x.text ≡ text) → IfSome o (λ x. x.text ≡ line)
plain_text text line (Some x) same is = is ∙ same
plain_text text line None same is = tt

pub plain_none : (nodes : ℕ) → nodes ≤ 255 → (line : List ℕ) (a : LineAct) (o : Option DoubtLine) → IsLine nodes line a → IfNone o (makes_own a ≡ true) → IfNone o (HasNoPlain nodes line)
plain_none nodes few line a (Some x) is own = tt
plain_none nodes few line a None is own = λ b other. ap makes_own (line_one nodes few line b a other is) ∙ own

pub none_plain : (nodes : ℕ) (line : List ℕ) → IsNoLine nodes line → HasNoPlain nodes line
none_plain nodes line none = λ a is. absurd (none a is)
