-- The lines of a header, each by itself, and roots that are apart.
use Rattle.std.proofs.Common.{◌≡◌, ℕ, ◌+◌, ◌≤◌, Bool, true, false, ltb, List, [], ◌∷◌, Option, Some, None, refl, sym, ap, subst, ◌∙◌, arith}
use Rattle.std.specs.Prelude.{IfNone, IsTrue, decimal}
use Rattle.std.proofs.lemmas.Bool.{ltb-true, ltb-false}
use Rattle.grasp_types.specs.Prefix.{AddressBlock, IsPrefix}
use Rattle.grasp_pool.specs.Roots.{block_of}
use Rattle.grasp_pool.specs.Spans.{IsValid, Apart, size}
use Rattle.grasp_pool.proofs.Dyadic.{size_pos}
use Rattle.grasp_pool.proofs.Meeting.{meets}
use Rattle.grasp_text.specs.Line.{prefix_word}
use Rattle.grasp_text.specs.Words.{is_over}
use Rattle.grasp_model_network.specs.Plans.{IsGoodRoot}
use Rattle.grasp_model_network.specs.declared.plan.RootAt.{RootAt}
use Rattle.grasp_script.specs.Grammar.{node_of}
use Rattle.grasp_script.specs.Headers.{root_words}
use Rattle.grasp_script.proofs.HeaderLaws.{one_number}
use Rattle.grasp_script.proofs.WordReaders.{read_node}

pub if_none : {A : Type 0} {P : Type 0} (o : Option A) → P → IfNone o P
if_none (Some a) p = tt
if_none None p = p

-- a line of a name and a number has no other number
pub other_number : (name : List ℕ) (words : List (List ℕ)) (m n : ℕ) → words ≡ name ∷ decimal m ∷ [] → m ≤ 18446744073709551615 → words ≡ name ∷ decimal n ∷ [] → n ≤ 18446744073709551615 → n ≡ m
other_number name words m n e p f q = one_number n m q p (let z : name ∷ decimal n ∷ [] ≡ name ∷ decimal m ∷ [] = sym f ∙ e in cc)

pub over_is : (ws : List (List ℕ)) → is_over ws ≡ true → ws ≡ []
over_is [] e = refl
over_is (w ∷ ws) e = absurd cc

-- ---- roots

module _ (nodes : ℕ) (few : nodes ≤ 255) where
  pub no_root_node : (words rest : List (List ℕ)) (w : List ℕ) → words ≡ w ∷ rest → node_of nodes w ≡ None → (r : RootAt) → IsGoodRoot nodes r → ¬ (words ≡ root_words r)
  no_root_node words rest w e n r good is =
      let both : w ∷ rest ≡ root_words r = sym e ∙ is in
      let word : w ≡ decimal r.node = cc in
      let found = (read_node nodes few).found r.node good.node in
      absurd (let z = sym n ∙ ap (node_of nodes) word ∙ found in cc)

  pub no_root_prefix : (words rest more : List (List ℕ)) (w v : List ℕ) → words ≡ w ∷ rest → rest ≡ v ∷ more → ((p : AddressBlock) → IsPrefix p.address p.length → ¬ (v ≡ prefix_word p)) → (r : RootAt) → IsGoodRoot nodes r → ¬ (words ≡ root_words r)
  no_root_prefix words rest more w v e f none r good is =
      let both : w ∷ v ∷ more ≡ root_words r = ap (λ (t : List (List ℕ)). w ∷ t) (sym f) ∙ sym e ∙ is in
      let word : v ≡ prefix_word (block_of r.root) = cc in
      none (block_of r.root) good.valid word

  pub root_is : (words rest more : List (List ℕ)) (w v : List ℕ) (k a n : ℕ) (p : AddressBlock) → words ≡ w ∷ rest → node_of nodes w ≡ Some k → rest ≡ v ∷ more → v ≡ prefix_word p → is_over more ≡ true → a ≡ p.address → n ≡ p.length → words ≡ root_words (record { node = k; root = record { address = a; length = n } })
  root_is words rest more w v k a n p e node f word over address len =
      let is = (read_node nodes few).only w k node in
      let same : p ≡ record { address = a; length = n } = (λ i. record { address = sym address i; length = sym len i }) in
      let prefix : v ≡ prefix_word (record { address = a; length = n }) = word ∙ ap prefix_word same in
      let tail : rest ≡ prefix_word (record { address = a; length = n }) ∷ [] = f ∙ (λ i. prefix i ∷ over_is more over i) in
      e ∙ (λ i. is.0 i ∷ tail i)

  pub root_good : (w : List ℕ) (k a n : ℕ) (p : AddressBlock) → node_of nodes w ≡ Some k → IsPrefix p.address p.length → a ≡ p.address → n ≡ p.length → IsGoodRoot nodes (record { node = k; root = record { address = a; length = n } })
  root_good w k a n p node valid address len = record {
    node = ((read_node nodes few).only w k node).1;
    valid = subst (λ (q : AddressBlock). IsValid q) (λ i. record { address = sym address i; length = sym len i }) valid;
  }

-- ---- roots that are apart

pub right_of : (p q : AddressBlock) (s t : ℕ) → s + 1 ≡ p.address + size p → t + 1 ≡ q.address + size q → q.address ≤ s → (b : Bool) → ltb t p.address ≡ b → (IsTrue b → Apart p q) × (Apart p q → IsTrue b)
right_of p q s t e f le true lt = let less = ltb-true t p.address lt in (λ z a i j. absurd (omega (arith, less, f, i.0, j.1)), λ z. refl)
right_of p q s t e f le false lt =
    let more = ltb-false t p.address lt in
    let m = meets p q (omega (arith, more, f, size_pos q)) (omega (arith, le, e, size_pos p)) in
    (λ z. absurd (let y = z in cc), λ apart. absurd (apart m.0 m.1.0 m.1.1))
