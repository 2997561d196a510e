-- The lines of headers: a line tells one thing at most, and a text begins with one header at most.
use Rattle.std.proofs.Common.{◌≡◌, ℕ, ◌≤◌, ◌⊎◌, inl, inr, List, [], ◌∷◌, ◌++◌, length, map, Option, Some, None, refl, sym, ap, subst, ◌∙◌, append_assoc, arith}
use Rattle.std.specs.Prelude.{All, decimal}
use Rattle.std.specs.List.{AllByRecursion}
use Rattle.std.proofs.lemmas.List.Elements.{All-head, All-tail}
use Rattle.grasp_types.specs.Prefix.{AddressBlock}
use Rattle.grasp_pool.specs.Roots.{block_of}
use Rattle.grasp_text.specs.Line.{prefix_word}
use Rattle.grasp_text.proofs.NumberWords.{some, some_is}
use Rattle.grasp_text.proofs.PrefixWords.{block_found}
use Rattle.grasp_model_network.specs.Plans.{IsNode, IsGoodRoot, IsGoodLink, IsGoodPlan}
use Rattle.grasp_model_network.specs.declared.plan.RootAt.{RootAt}
use Rattle.grasp_script.specs.Grammar.{number64}
use Rattle.grasp_script.specs.Headers.{IsLimit, nodes_words, limit_words, start_words, root_words, header_line_words, size_words, header_words, roots_told, links_told, plan_told}
use Rattle.grasp_script.specs.Reads.{opening_words}
use Rattle.grasp_script.specs.declared.header.HeaderLine.{HeaderLine}
use Rattle.grasp_script.specs.declared.header.HeaderLine.TheVariants.{Root, Link}
use Rattle.grasp_script.proofs.WordReaders.{read64}

abbrev pub WordLines : Type 0
WordLines = List (List (List ℕ))

-- ---- one line

-- the first byte of a line's first word
abbrev first_byte : List (List ℕ) → ℕ
first_byte [] = 0
first_byte ([] ∷ words) = 0
first_byte ((b ∷ word) ∷ words) = b

pub one_number : (m n : ℕ) → m ≤ 18446744073709551615 → n ≤ 18446744073709551615 → decimal m ≡ decimal n → m ≡ n
one_number m n p q e = some_is m n (sym (read64.found m p) ∙ ap number64 e ∙ read64.found n q)

abbrev pair : AddressBlock → Option (ℕ × ℕ)
pair p = Some (p.address, p.length)

one_block : (p q : AddressBlock) → pair p ≡ pair q → (p.address ≡ q.address) × (p.length ≡ q.length)
one_block p q e =
    let same : (p.address, p.length) ≡ (q.address, q.length) = some_is (p.address, p.length) (q.address, q.length) e in
    (ap (λ (x : ℕ × ℕ). x.0) same, ap (λ (x : ℕ × ℕ). x.1) same)

pub one_root : (nodes : ℕ) (r q : RootAt) → nodes ≤ 64 → IsGoodRoot nodes r → IsGoodRoot nodes q → root_words r ≡ root_words q → r ≡ q
one_root nodes r q few g h e =
    let most : r.node ≤ nodes = g.node.most in
    let other : q.node ≤ nodes = h.node.most in
    let number : decimal r.node ≡ decimal q.node = cc in
    let word : prefix_word (block_of r.root) ≡ prefix_word (block_of q.root) = cc in
    let node : r.node ≡ q.node = one_number r.node q.node (omega arith) (omega arith) number in
    let root = one_block (block_of r.root) (block_of q.root) (sym (block_found (block_of r.root) (prefix_word (block_of r.root)) g.valid refl) ∙ block_found (block_of q.root) (prefix_word (block_of r.root)) h.valid word) in
    (λ i. record { node = node i; root = record { address = root.0 i; length = root.1 i } })

pub one_link : (nodes : ℕ) (ms ns : List ℕ) → nodes ≤ 64 → All (IsNode nodes) ms → All (IsNode nodes) ns → map decimal ms ≡ map decimal ns → ms ≡ ns
one_link nodes [] [] few g h e = refl
one_link nodes [] (n ∷ ns) few g h e = absurd cc
one_link nodes (m ∷ ms) [] few g h e = absurd cc
one_link nodes (m ∷ ms) (n ∷ ns) few g h e =
    let a = All-head (IsNode nodes) m ms g in
    let b = All-head (IsNode nodes) n ns h in
    let most : m ≤ nodes = a.most in
    let other : n ≤ nodes = b.most in
    let word : decimal m ≡ decimal n = cc in
    let rest : map decimal ms ≡ map decimal ns = cc in
    let first : m ≡ n = one_number m n (omega arith) (omega arith) word in
    let others : ms ≡ ns = one_link nodes ms ns few (All-tail (IsNode nodes) m ms g) (All-tail (IsNode nodes) n ns h) rest in
    (λ i. first i ∷ others i)

-- a root or a link that a plan of so many nodes can have
abbrev pub IsTold : ℕ → HeaderLine → Type 0
IsTold nodes (Root r) = IsGoodRoot nodes r
IsTold nodes (Link members) = IsGoodLink nodes members

one_line : (nodes : ℕ) (a b : HeaderLine) → nodes ≤ 64 → IsTold nodes a → IsTold nodes b → header_line_words a ≡ header_line_words b → a ≡ b
one_line nodes (Root r) (Root q) few g h e = ap Root (one_root nodes r q few g h (let z : root_words r ≡ root_words q = cc in z))
one_line nodes (Root r) (Link n) few g h e = absurd (omega (arith, ap first_byte e))
one_line nodes (Link m) (Root q) few g h e = absurd (omega (arith, ap first_byte e))
one_line nodes (Link m) (Link n) few g h e = ap Link (one_link nodes m n few g.members h.members (let z : map decimal m ≡ map decimal n = cc in z))

abbrev pub AreTold : ℕ → List HeaderLine → Type 0
AreTold nodes told = AllByRecursion (IsTold nodes) told

told_all : (nodes : ℕ) (told : List HeaderLine) → All (IsGoodRoot nodes) (roots_told told) → All (IsGoodLink nodes) (links_told told) → AreTold nodes told
told_all nodes [] g h = tt
told_all nodes (Root r ∷ told) g h = (All-head (IsGoodRoot nodes) r (roots_told told) g, told_all nodes told (All-tail (IsGoodRoot nodes) r (roots_told told) g) h)
told_all nodes (Link m ∷ told) g h = (All-head (IsGoodLink nodes) m (links_told told) h, told_all nodes told g (All-tail (IsGoodLink nodes) m (links_told told) h))

pub told_good : (nodes : ℕ) (size : Option ℕ) (told : List HeaderLine) → IsGoodPlan (plan_told nodes size told) → AreTold nodes told
told_good nodes size told good = told_all nodes told good.roots good.links

-- ---- which line is which

pub not_start : (line : HeaderLine) → ¬ (start_words ≡ header_line_words line)
not_start (Root r) e = absurd (omega (arith, ap first_byte e))
not_start (Link m) e = absurd (omega (arith, ap first_byte e))

not_size : (limit : ℕ) (line : HeaderLine) → ¬ (limit_words limit ≡ header_line_words line)
not_size limit (Root r) e = absurd (omega (arith, ap first_byte e))
not_size limit (Link m) e = absurd (omega (arith, ap first_byte e))

pub start_no_size : (limit : ℕ) → ¬ (start_words ≡ limit_words limit)
start_no_size limit e = absurd (omega (arith, ap length e))

-- ---- the line behind others

-- the header ends with this line
pub record EndsAt (told other : List HeaderLine) (w : List (List ℕ)) (acts more : WordLines) : Type 0 where
  pub start : w ≡ start_words
  pub same : other ≡ told
  pub behind : acts ≡ more

-- the header goes on with this line
pub record GoesOn (told other : List HeaderLine) (w : List (List ℕ)) : Type 0 where
  pub line : HeaderLine
  pub others : List HeaderLine
  pub parts : other ≡ told ++ line ∷ others
  pub spelled : w ≡ header_line_words line

told_next : (nodes : ℕ) → nodes ≤ 64 → (told other : List HeaderLine) (w : List (List ℕ)) (acts more : WordLines) → AreTold nodes told → AreTold nodes other → map header_line_words other ++ start_words ∷ acts ≡ map header_line_words told ++ w ∷ more → EndsAt told other w acts more ⊎ GoesOn told other w
told_next nodes few [] [] w acts more g h e =
    let first : start_words ≡ w = cc in
    let rest : acts ≡ more = cc in
    inl (record { start = sym first; same = refl; behind = rest })
told_next nodes few [] (y ∷ other) w acts more g h e =
    let first : header_line_words y ≡ w = cc in
    inr (record { line = y; others = other; parts = refl; spelled = sym first })
told_next nodes few (x ∷ told) [] w acts more g h e = absurd (not_start x (let z : start_words ≡ header_line_words x = cc in z))
told_next nodes few (x ∷ told) (y ∷ other) w acts more g h e =
    let first : header_line_words y ≡ header_line_words x = cc in
    let rest : map header_line_words other ++ start_words ∷ acts ≡ map header_line_words told ++ w ∷ more = cc in
    let same : y ≡ x = one_line nodes y x few h.0 g.0 first in
    elim (told_next nodes few told other w acts more g.1 h.1 rest) [
      | inl ends ↦ inl (record { start = ends.start; same = (λ i. same i ∷ ends.same i); behind = ends.behind })
      | inr goes ↦ inr (record { line = goes.line; others = goes.others; parts = (λ i. same i ∷ goes.parts i); spelled = goes.spelled })
    ]

-- what stands behind the lines of an opening, in a text that begins with a header
pub record Next (nodes other_nodes : ℕ) (size other_size : Option ℕ) (told other : List HeaderLine) (w : List (List ℕ)) (acts more : WordLines) : Type 0 where
  pub same_nodes : other_nodes ≡ nodes
  pub same_size : other_size ≡ size
  pub next : EndsAt told other w acts more ⊎ GoesOn told other w

-- no header without a line for the size begins as one with it
no_size : (n : ℕ) (other told : List HeaderLine) (w : List (List ℕ)) (acts more : WordLines) → ¬ ((map header_line_words other ++ start_words ∷ []) ++ acts ≡ limit_words n ∷ (map header_line_words told ++ w ∷ more))
no_size n [] told w acts more e = start_no_size n (let z : start_words ≡ limit_words n = cc in z)
no_size n (y ∷ other) told w acts more e = not_size n y (let z : header_line_words y ≡ limit_words n = cc in sym z)

sized : (m : ℕ) → IsLimit m → (other told : List HeaderLine) (w : List (List ℕ)) (acts more : WordLines) → (told ≡ [] → (n : ℕ) → IsLimit n → ¬ (w ≡ limit_words n)) → ¬ (limit_words m ∷ ((map header_line_words other ++ start_words ∷ []) ++ acts) ≡ map header_line_words told ++ w ∷ more)
sized m is other [] w acts more unsized e = unsized refl m is (let z : limit_words m ≡ w = cc in sym z)
sized m is other (x ∷ told) w acts more unsized e = not_size m x (let z : limit_words m ≡ header_line_words x = cc in z)

module _ (nodes : ℕ) (few : nodes ≤ 64) (told other : List HeaderLine) (w : List (List ℕ)) (acts more : WordLines) (g : AreTold nodes told) (h : AreTold nodes other) where
  unsized_next : (map header_line_words other ++ start_words ∷ []) ++ acts ≡ map header_line_words told ++ w ∷ more → EndsAt told other w acts more ⊎ GoesOn told other w
  unsized_next e = told_next nodes few told other w acts more g h (sym (append_assoc (map header_line_words other) (start_words ∷ []) acts) ∙ e)

  by_size : (size other_size : Option ℕ) → ((n : ℕ) → size ≡ Some n → IsLimit n) → ((n : ℕ) → other_size ≡ Some n → IsLimit n) → (size ≡ None → told ≡ [] → (n : ℕ) → IsLimit n → ¬ (w ≡ limit_words n)) → (size_words other_size ++ (map header_line_words other ++ start_words ∷ [])) ++ acts ≡ (size_words size ++ map header_line_words told) ++ w ∷ more → (other_size ≡ size) × (EndsAt told other w acts more ⊎ GoesOn told other w)
  by_size None None p q unsized e = (refl, unsized_next e)
  by_size (Some n) (Some m) p q unsized e =
      let first : limit_words m ≡ limit_words n = cc in
      let rest : (map header_line_words other ++ start_words ∷ []) ++ acts ≡ map header_line_words told ++ w ∷ more = cc in
      let number : decimal m ≡ decimal n = cc in
      let a = q m refl in
      let b = p n refl in
      let most : m ≤ 8192 = a.most in
      let limit : n ≤ 8192 = b.most in
      (ap some (one_number m n (omega arith) (omega arith) number), unsized_next rest)
  by_size (Some n) None p q unsized e = absurd (no_size n other told w acts more e)
  by_size None (Some m) p q unsized e = absurd (sized m (q m refl) other told w acts more (λ empty. unsized refl empty) e)

abbrev none_size : Option ℕ
none_size = None

good_limit : (nodes : ℕ) (size : Option ℕ) (told : List HeaderLine) → IsGoodPlan (plan_told nodes size told) → (n : ℕ) → size ≡ Some n → IsLimit n
good_limit nodes None told good n e = absurd (let z : none_size ≡ Some n = e in cc)
good_limit nodes (Some m) told good n e = subst IsLimit (some_is m n e) (record { least = good.least_limit; most = good.most_limit })

-- a text that begins with an opening and a line, and with a header: what the line is
pub next_line : (nodes other_nodes : ℕ) (size other_size : Option ℕ) (told other : List HeaderLine) (w : List (List ℕ)) (acts more : WordLines) → IsGoodPlan (plan_told nodes size told) → IsGoodPlan (plan_told other_nodes other_size other) → (size ≡ None → told ≡ [] → (n : ℕ) → IsLimit n → ¬ (w ≡ limit_words n)) → header_words other_nodes other_size other ++ acts ≡ opening_words nodes size told ++ w ∷ more → Next nodes other_nodes size other_size told other w acts more
next_line nodes other_nodes size other_size told other w acts more good others unsized e =
    let first : nodes_words other_nodes ≡ nodes_words nodes = cc in
    let rest : (size_words other_size ++ (map header_line_words other ++ start_words ∷ [])) ++ acts ≡ (size_words size ++ map header_line_words told) ++ w ∷ more = cc in
    let word : decimal other_nodes ≡ decimal nodes = cc in
    let few : nodes ≤ 64 = good.most_nodes in
    let other_few : other_nodes ≤ 64 = others.most_nodes in
    let same : other_nodes ≡ nodes = one_number other_nodes nodes (omega arith) (omega arith) word in
    let told_other : AreTold nodes other = subst (λ (k : ℕ). AreTold k other) same (told_good other_nodes other_size other others) in
    let h = by_size nodes few told other w acts more (told_good nodes size told good) told_other size other_size (good_limit nodes size told good) (good_limit other_nodes other_size other others) unsized rest in
    record { same_nodes = same; same_size = h.0; next = h.1 }
