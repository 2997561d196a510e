-- A header's lines, one after another.
use Rattle.std.proofs.Common.{◌≡◌, ℕ, ◌+◌, inl, inr, List, [], ◌∷◌, ◌++◌, length, map, Option, Some, None, refl, sym, ap, subst, ◌∙◌, append_assoc, arith, length-append}
use Rattle.std.specs.Prelude.{codes, decimal}
use Rattle.std.proofs.lemmas.List.{append-nil, map-append}
use Rattle.std.proofs.lemmas.List.Elements.{All-nil}
use Rattle.grasp_text.specs.Words.{words_of, joined}
use Rattle.grasp_model_network.specs.Plans.{IsGoodRoot, IsGoodLink, IsGoodPlan}
use Rattle.grasp_model_network.specs.declared.plan.WorldPlan.{WorldPlan}
use Rattle.grasp_script.specs.Headers.{IsNodeCount, IsLimit, nodes_words, limit_words, start_words, header_line_words, size_words, header_words, plan_told, plan_with}
use Rattle.grasp_script.specs.Reads.{opening_words, bare, IsUnsized, IsSized, SoFar, HeaderRead}
use Rattle.grasp_script.specs.Scripts.{text_lines, texts, IsHeader, IsNoScript, BeginsScript, IsUnfitLine, IsMissingLine}
use Rattle.grasp_script.specs.declared.header.HeaderLine.{HeaderLine}
use Rattle.grasp_script.specs.declared.header.HeaderLine.TheVariants.{Root, Link}
use Rattle.grasp_script.proofs.GoodPlans.{plan_more, good_front}
use Rattle.grasp_script.proofs.HeaderLaws.{WordLines, next_line}
use Rattle.grasp_script.proofs.ScriptLaws.{Lines, good_told, words_with, header_parts}
use Rattle.grasp_script.proofs.WholeWords.{words_again, spelled, number}

-- ---- plans without roots and links

pub bare_good : (nodes limit : ℕ) → IsNodeCount nodes → IsLimit limit → IsGoodPlan (bare nodes limit)
bare_good nodes limit n l = record {
  least_nodes = n.least;
  most_nodes = n.most;
  least_limit = l.least;
  most_limit = l.most;
  few_roots = omega arith;
  roots = All-nil (IsGoodRoot nodes);
  apart = λ i j d ij lt. absurd (omega (arith, lt));
  links = All-nil (IsGoodLink nodes);
  few_links = λ node is. omega arith;
}

-- ---- what begins a script

abbrev start_line : List ℕ
start_line = codes "start"

ended_header : (front : Lines) (plan : WorldPlan) (size : Option ℕ) (told : List HeaderLine) → plan ≡ plan_told plan.nodes size told → IsGoodPlan plan → map words_of front ≡ opening_words plan.nodes size told → (line : List ℕ) → words_of line ≡ start_words → IsHeader (front ++ line ∷ []) plan
ended_header front plan size told is good words line start = record {
  size = size;
  told = told;
  is_plan = is;
  good = good;
  spelled = map-append words_of front (line ∷ []) ∙ (λ i. words i ++ start i ∷ []) ∙ sym (header_parts plan.nodes size told []) ∙ append-nil (header_words plan.nodes size told);
}

front_begins : (front : Lines) (plan : WorldPlan) (size : Option ℕ) (told : List HeaderLine) → plan ≡ plan_told plan.nodes size told → IsGoodPlan plan → map words_of front ≡ opening_words plan.nodes size told → BeginsScript front
front_begins front plan size told is good words = record {
  plan = plan;
  header = front ++ start_line ∷ [];
  lines = [];
  more = start_line ∷ [];
  is_header = ended_header front plan size told is good words start_line refl;
  meant = tt;
  parts = append-nil (front ++ start_line ∷ []);
}

one_node : IsNodeCount 1
one_node = record { least = omega arith; most = omega arith }

usual_limit : IsLimit 2048
usual_limit = record { least = omega arith; most = omega arith }

first_line : List ℕ
first_line = joined (nodes_words 1)

first_words : words_of (joined (nodes_words 1)) ≡ nodes_words 1
first_words = words_again (codes "nodes") (decimal 1 ∷ []) (spelled (codes "nodes") refl refl) (number 1 (omega arith), tt)

-- nothing begins a script
nothing_begins : BeginsScript []
nothing_begins =
    let b = front_begins (joined (nodes_words 1) ∷ []) (bare 1 2048) None [] refl (bare_good 1 2048 one_node usual_limit) (ap (λ (w : List (List ℕ)). w ∷ []) first_words) in
    record { plan = b.plan; header = b.header; lines = b.lines; more = joined (nodes_words 1) ∷ b.more; is_header = b.is_header; meant = b.meant; parts = b.parts }

-- a line that has no word
abbrev none_told : List (List ℕ)
none_told = []

no_words : (i : HeaderLine) → ¬ (none_told ≡ header_line_words i)
no_words (Root r) z = absurd cc
no_words (Link m) z = absurd cc

-- ---- the first line

-- a header's first line tells how many nodes there are
module _ (text : List ℕ) where
  none_begins : (line : List ℕ) → ((n : ℕ) → IsNodeCount n → ¬ (words_of line ≡ nodes_words n)) → ¬ BeginsScript (line ∷ [])
  none_begins line bad b =
      let words : header_words b.plan.nodes b.is_header.size b.is_header.told ++ map words_of (texts b.lines) ≡ words_of line ∷ map words_of b.more = sym (words_with b.header (texts b.lines) b.plan b.is_header) ∙ ap (map words_of) b.parts in
      let first : nodes_words b.plan.nodes ≡ words_of line = cc in
      bad b.plan.nodes (record { least = b.is_header.good.least_nodes; most = b.is_header.good.most_nodes }) (sym first)

  pub nodes_unfit : (line : List ℕ) (more : Lines) → text_lines text ≡ line ∷ more → ((n : ℕ) → IsNodeCount n → ¬ (words_of line ≡ nodes_words n)) → IsUnfitLine text 1
  nodes_unfit line more e bad = record { front = []; line = line; rest = more; parts = e; before = nothing_begins; none = none_begins line bad; place = refl }

  none_empty : text_lines text ≡ [] → IsNoScript text
  none_empty e plan lines s =
      let words : header_words plan.nodes s.is_header.size s.is_header.told ++ map words_of (texts lines) ≡ [] = sym (words_with s.header (texts lines) plan s.is_header) ∙ ap (map words_of) (sym s.parts ∙ e) in
      absurd (let z = words in cc)

  pub nodes_missing : text_lines text ≡ [] → IsMissingLine text 1
  nodes_missing e = record { before = subst BeginsScript (sym e) nothing_begins; none = none_empty e; place = ap (λ (t : Lines). length t + 1) (sym e) }

  -- ---- the lines before roots and links

  pub unsized_begun : (rest line : List ℕ) (nodes : ℕ) → text_lines text ≡ line ∷ text_lines rest → words_of line ≡ nodes_words nodes → IsNodeCount nodes → IsUnsized rest → SoFar text rest (bare nodes 2048) 1
  unsized_begun rest line nodes e words count unsized = record {
    size = None;
    told = [];
    front = line ∷ [];
    parts = e;
    is_plan = refl;
    good = bare_good nodes 2048 count usual_limit;
    spelled = ap (λ (w : List (List ℕ)). w ∷ []) words;
    unsized = λ a b. unsized;
    place = refl;
  }

  pub sized_begun : (middle rest line : List ℕ) (nodes limit : ℕ) → text_lines text ≡ line ∷ text_lines middle → words_of line ≡ nodes_words nodes → IsNodeCount nodes → IsSized middle limit rest → SoFar text rest (bare nodes limit) 2
  sized_begun middle rest line nodes limit e words count is = record {
    size = Some limit;
    told = [];
    front = line ∷ is.line ∷ [];
    parts = e ∙ ap (λ (t : Lines). line ∷ t) is.parts;
    is_plan = refl;
    good = bare_good nodes limit count is.good;
    spelled = (λ i. words i ∷ is.spelled i ∷ []);
    unsized = λ a b. absurd (let z = a in cc);
    place = refl;
  }

  -- ---- the lines behind them

  module _ (rest : List ℕ) (plan : WorldPlan) (number : ℕ) (h : SoFar text rest plan number) where
    more_words : (line : List ℕ) (i : HeaderLine) → words_of line ≡ header_line_words i → map words_of (h.front ++ line ∷ []) ≡ opening_words plan.nodes h.size (h.told ++ i ∷ [])
    more_words line i e =
        map-append words_of h.front (line ∷ [])
        ∙ (λ k. h.spelled k ++ e k ∷ [])
        ∙ ap (λ (t : WordLines). nodes_words plan.nodes ∷ t) (append_assoc (size_words h.size) (map header_line_words h.told) (header_line_words i ∷ []) ∙ ap (λ (t : WordLines). size_words h.size ++ t) (sym (map-append header_line_words h.told (i ∷ []))))

    more_plan : (i : HeaderLine) → plan_with plan i ≡ plan_told plan.nodes h.size (h.told ++ i ∷ [])
    more_plan i = ap (λ (p : WorldPlan). plan_with p i) h.is_plan ∙ sym (plan_more plan.nodes h.size h.told i)

    same_nodes : (i : HeaderLine) → (plan_with plan i).nodes ≡ plan.nodes
    same_nodes (Root r) = refl
    same_nodes (Link m) = refl

    not_empty : {A : Type 0} (xs : List A) (y : A) → ¬ (xs ++ y ∷ [] ≡ [])
    not_empty [] y e = absurd (let z = e in cc)
    not_empty (x ∷ xs) y e = absurd (let z = e in cc)

    pub told_more : (line behind : List ℕ) (i : HeaderLine) → text_lines rest ≡ line ∷ text_lines behind → words_of line ≡ header_line_words i → IsGoodPlan (plan_with plan i) → SoFar text behind (plan_with plan i) (number + 1)
    told_more line behind i e words good = record {
      size = h.size;
      told = h.told ++ i ∷ [];
      front = h.front ++ line ∷ [];
      parts = h.parts ∙ ap (λ (t : Lines). h.front ++ t) e ∙ sym (append_assoc h.front (line ∷ []) (text_lines behind));
      is_plan = more_plan i ∙ ap (λ (n : ℕ). plan_told n h.size (h.told ++ i ∷ [])) (sym (same_nodes i));
      good = good;
      spelled = more_words line i words ∙ ap (λ (n : ℕ). opening_words n h.size (h.told ++ i ∷ [])) (sym (same_nodes i));
      unsized = λ a b. absurd (not_empty h.told i b);
      place = omega (arith, h.place, length-append h.front (line ∷ []));
    }

    pub told_header : (line behind : List ℕ) → text_lines rest ≡ line ∷ text_lines behind → words_of line ≡ start_words → HeaderRead text behind plan (number + 1)
    told_header line behind e start = record {
      header = h.front ++ line ∷ [];
      is_header = ended_header h.front plan h.size h.told h.is_plan h.good h.spelled line start;
      parts = h.parts ∙ ap (λ (t : Lines). h.front ++ t) e ∙ sym (append_assoc h.front (line ∷ []) (text_lines behind));
      place = omega (arith, h.place, length-append h.front (line ∷ []));
    }

    good_here : IsGoodPlan (plan_told plan.nodes h.size h.told)
    good_here = subst IsGoodPlan h.is_plan h.good

    -- a line that fits would make the plan good
    fits : (line : List ℕ) (other_nodes : ℕ) (other_size : Option ℕ) (other : List HeaderLine) → other_nodes ≡ plan.nodes → other_size ≡ h.size → IsGoodPlan (plan_told other_nodes other_size other) → (i : HeaderLine) (others : List HeaderLine) → other ≡ h.told ++ i ∷ others → IsGoodPlan (plan_with plan i)
    fits line other_nodes other_size other nodes size good i others parts =
        let whole : plan_told other_nodes other_size other ≡ plan_told plan.nodes h.size ((h.told ++ i ∷ []) ++ others) = (λ k. plan_told (nodes k) (size k) ((parts ∙ sym (append_assoc h.told (i ∷ []) others)) k)) in
        subst IsGoodPlan (sym (more_plan i)) (good_front plan.nodes h.size (h.told ++ i ∷ []) others (subst IsGoodPlan whole good))

    no_line : (line : List ℕ) → (h.size ≡ None → h.told ≡ [] → (n : ℕ) → IsLimit n → ¬ (words_of line ≡ limit_words n)) → ¬ (words_of line ≡ start_words) → ((i : HeaderLine) → words_of line ≡ header_line_words i → ¬ IsGoodPlan (plan_with plan i)) → ¬ BeginsScript (h.front ++ line ∷ [])
    no_line line unsized not_start bad b =
        let words : header_words b.plan.nodes b.is_header.size b.is_header.told ++ map words_of (texts b.lines) ≡ opening_words plan.nodes h.size h.told ++ words_of line ∷ map words_of b.more =
        sym (words_with b.header (texts b.lines) b.plan b.is_header) ∙ ap (map words_of) (b.parts ∙ append_assoc h.front (line ∷ []) b.more) ∙ map-append words_of h.front (line ∷ b.more) ∙ ap (λ (t : WordLines). t ++ words_of line ∷ map words_of b.more) h.spelled in
        let n = next_line plan.nodes b.plan.nodes h.size b.is_header.size h.told b.is_header.told (words_of line) (map words_of (texts b.lines)) (map words_of b.more) good_here (good_told b.header b.plan b.is_header) unsized words in
        elim n.next [
          | inl ends ↦ not_start ends.start
          | inr goes ↦ bad goes.line goes.spelled (fits line b.plan.nodes b.is_header.size b.is_header.told n.same_nodes n.same_size (good_told b.header b.plan b.is_header) goes.line goes.others goes.parts)
        ]

    pub told_unfit : (line : List ℕ) (more : Lines) → text_lines rest ≡ line ∷ more → ¬ (words_of line ≡ start_words) → ((i : HeaderLine) → words_of line ≡ header_line_words i → ¬ IsGoodPlan (plan_with plan i)) → IsUnfitLine text (number + 1)
    told_unfit line more e not_start bad = record {
      front = h.front;
      line = line;
      rest = more;
      parts = h.parts ∙ ap (λ (t : Lines). h.front ++ t) e;
      before = front_begins h.front plan h.size h.told h.is_plan h.good h.spelled;
      none = no_line line (λ a b n is. h.unsized a b line more n e is) not_start bad;
      place = ap (λ (n : ℕ). n + 1) h.place;
    }

    -- no script ends before its header does
    no_script : text_lines rest ≡ [] → IsNoScript text
    no_script e p lines s =
        let whole : s.header ++ texts lines ≡ h.front = sym s.parts ∙ h.parts ∙ ap (λ (t : Lines). h.front ++ t) e ∙ append-nil h.front in
        let words : header_words p.nodes s.is_header.size s.is_header.told ++ map words_of (texts lines) ≡ opening_words plan.nodes h.size h.told = sym (words_with s.header (texts lines) p s.is_header) ∙ ap (map words_of) whole ∙ h.spelled in
        let longer : header_words p.nodes s.is_header.size s.is_header.told ++ (map words_of (texts lines) ++ [] ∷ []) ≡ opening_words plan.nodes h.size h.told ++ [] ∷ [] = sym (append_assoc (header_words p.nodes s.is_header.size s.is_header.told) (map words_of (texts lines)) ([] ∷ [])) ∙ ap (λ (t : WordLines). t ++ [] ∷ []) words in
        let n = next_line plan.nodes p.nodes h.size s.is_header.size h.told s.is_header.told [] (map words_of (texts lines) ++ [] ∷ []) [] good_here (good_told s.header p s.is_header) (λ a b m is same. absurd (let z = same in cc)) longer in
        elim n.next [
          | inl ends ↦ absurd (let z = ends.start in cc)
          | inr goes ↦ no_words goes.line goes.spelled
        ]

    pub told_missing : text_lines rest ≡ [] → IsMissingLine text (number + 1)
    told_missing e =
        let whole : text_lines text ≡ h.front = h.parts ∙ ap (λ (t : Lines). h.front ++ t) e ∙ append-nil h.front in
        record {
          before = subst BeginsScript (sym whole) (front_begins h.front plan h.size h.told h.is_plan h.good h.spelled);
          none = no_script e;
          place = ap (λ (n : ℕ). n + 1) (h.place ∙ ap length (sym whole));
        }
