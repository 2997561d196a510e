-- What the line of a want tells.
use Rattle.std.proofs.Common.{◌≡◌, ◌≢◌, ◌∙◌, ◌≤◌, refl, sym, ap, arith, ℕ, List, [], ◌∷◌, ◌++◌, get_or, Option, None, Some}
use Rattle.std.specs.Prelude.{codes, decimal}
use Rattle.std.proofs.lemmas.List.{append-nil, append_cancel_left, append_cancel_right}
use Rattle.std.proofs.lemmas.Option.{same_Some}
use Rattle.grasp_agent.specs.declared.want.WantEnd.{WantEnd}
use Rattle.grasp_agent.specs.declared.want.WantEnd.TheVariants as end
use Rattle.grasp_laws_tables.proofs.RefusalLaws.{differ}
use Rattle.grasp_text.specs.Line.{prefix_word}
use Rattle.grasp_text.specs.Words.{spaced}
use Rattle.grasp_text.proofs.NumberWords.{number_found}
use Rattle.grasp_text.proofs.PrefixWords.{block_found}
use Rattle.grasp_text.proofs.Pushed.{spaced_append}
use Rattle.grasp_types.specs.Prefix.{AddressBlock, IsPrefix}
use Rattle.grasp_types.specs.Refusal.{refusal_number}
use Rattle.grasp_types.specs.declared.refusal.ApiRefused.{ApiRefused}
use Rattle.grasp_node_main.specs.Lines.{IsEnd, WantEndsAreTold, end_words, line_text, want_words}
use Rattle.grasp_node_main.specs.declared.want_plan.WantPlan.{WantPlan}

-- ---- words

of_pair : ℕ × ℕ → AddressBlock
of_pair x = record { address = x.0; length = x.1 }

same_prefix : (p q : AddressBlock) → IsPrefix p.address p.length → IsPrefix q.address q.length → prefix_word p ≡ prefix_word q → p ≡ q
unfolding of_pair
same_prefix p q a b e = ap of_pair (same_Some (p.address, p.length) (q.address, q.length) (sym (block_found p (prefix_word p) a refl) ∙ block_found q (prefix_word p) b e))

same_number : (m n : ℕ) → m ≤ 21 → n ≤ 21 → decimal m ≡ decimal n → m ≡ n
same_number m n l k e =
    same_Some m n (sym (number_found 255 m (decimal m) (omega arith) (omega (arith, l)) refl) ∙ number_found 255 n (decimal m) (omega arith) (omega (arith, k)) e)

same_refusal : (r s : ApiRefused) → decimal (refusal_number r) ≡ decimal (refusal_number s) → r ≡ s
same_refusal r s e = differ.number r s (same_number (refusal_number r) (refusal_number s) (differ.range r).1 (differ.range s).1 e)

-- a last word is told by what stands behind the blank
last_word : (v w : List ℕ) → 32 ∷ (v ++ []) ≡ 32 ∷ (w ++ []) → v ≡ w
last_word v w e = let behind : v ++ [] ≡ w ++ [] = cc in sym (append-nil v) ∙ behind ∙ append-nil w

-- ---- ends

-- the first letter of how a want ended
abbrev letter : Option WantEnd → ℕ
letter None = 112
letter (Some (end.Held prefix)) = 104
letter (Some end.Declined) = 100
letter (Some end.TimedOut) = 116
letter (Some end.Broken) = 98
letter (Some end.OutOfMemory) = 111
letter (Some end.Invalid) = 105
letter (Some end.Empty) = 101
letter (Some (end.Refused refusal)) = 114

letter_at : (a : Option WantEnd) → get_or (spaced (end_words a)) 1 0 ≡ letter a
letter_at None = refl
letter_at (Some (end.Held prefix)) = refl
letter_at (Some (end.Refused refusal)) = refl
letter_at (Some _) = refl

same_letter : (a b : Option WantEnd) → spaced (end_words a) ≡ spaced (end_words b) → letter a ≡ letter b
same_letter a b e = sym (letter_at a) ∙ ap (λ (text : List ℕ). get_or text 1 0) e ∙ letter_at b

not_pending : (a : WantEnd) → letter (Some a) ≢ 112
not_pending (end.Held p) e = omega (arith, e)
not_pending _ e = omega (arith, e)

same_end : (a b : WantEnd) → IsEnd (Some a) → IsEnd (Some b) → letter (Some a) ≡ letter (Some b) → spaced (end_words (Some a)) ≡ spaced (end_words (Some b)) → a ≡ b
same_end (end.Held p) (end.Held q) h k l e =
    let words : 32 ∷ (prefix_word p ++ []) ≡ 32 ∷ (prefix_word q ++ []) = append_cancel_left (32 ∷ codes "held") _ _ e in
    ap (λ (x : AddressBlock). end.Held x) (same_prefix p q h k (last_word (prefix_word p) (prefix_word q) words))
same_end end.Declined end.Declined h k l e = refl
same_end end.TimedOut end.TimedOut h k l e = refl
same_end end.Broken end.Broken h k l e = refl
same_end end.OutOfMemory end.OutOfMemory h k l e = refl
same_end end.Invalid end.Invalid h k l e = refl
same_end end.Empty end.Empty h k l e = refl
same_end (end.Refused r) (end.Refused s) h k l e =
    let words : 32 ∷ (decimal (refusal_number r) ++ []) ≡ 32 ∷ (decimal (refusal_number s) ++ []) = append_cancel_left (32 ∷ codes "refused") _ _ e in
    ap (λ (x : ApiRefused). end.Refused x) (same_refusal r s (last_word (decimal (refusal_number r)) (decimal (refusal_number s)) words))
same_end _ _ h k l e = absurd (omega (arith, l))

by_letter : (a b : Option WantEnd) → IsEnd a → IsEnd b → letter a ≡ letter b → spaced (end_words a) ≡ spaced (end_words b) → a ≡ b
by_letter None None h k l e = refl
by_letter None (Some b) h k l e = absurd (not_pending b (sym l))
by_letter (Some a) None h k l e = absurd (not_pending a l)
by_letter (Some a) (Some b) h k l e = ap (λ (x : WantEnd). Some x) (same_end a b h k l e)

-- ---- lines

-- the words of a want in front of how it ended
abbrev front : WantPlan → List (List ℕ)
front w = decimal w.length ∷ decimal w.longest ∷ codes "=" ∷ []

same_words : (w : WantPlan) (a b : Option WantEnd) → line_text (codes "want") (want_words w a) ≡ line_text (codes "want") (want_words w b) → spaced (end_words a) ≡ spaced (end_words b)
same_words w a b e =
    let behind = append_cancel_left (codes "want") (spaced (want_words w a) ++ 10 ∷ []) (spaced (want_words w b) ++ 10 ∷ []) e in
    let words : spaced (want_words w a) ≡ spaced (want_words w b) = append_cancel_right (spaced (want_words w a)) (spaced (want_words w b)) (10 ∷ []) behind in
    append_cancel_left (spaced (front w)) (spaced (end_words a)) (spaced (end_words b)) (sym (spaced_append (front w) (end_words a)) ∙ words ∙ spaced_append (front w) (end_words b))

pub want_ends_told : WantEndsAreTold
want_ends_told w a b h k e = let words = same_words w a b e in by_letter a b h k (same_letter a b words) words
