-- The lines before the first round are the header of a good plan.
use Rattle.std.proofs.Common.{◌≡◌, ◌≢◌, ℕ, zero, suc, ◌+◌, ◌*◌, ◌^◌, ◌<◌, ◌≤◌, ◌/◌, ◌%◌, Bool, true, cond, leb, ◌&&◌, List, [], ◌∷◌, ◌++◌, None, length, map, append_assoc, All, AllPairs, get_or, refl, sym, ap, ◌∙◌, arith}
use Rattle.std.specs.Prelude.{codes, decimal, slice_index}
use Rattle.std.specs.List.{onto_first, AllByRecursion}
use Rattle.std.specs.Int.{to_be_bytes, w128}
use Rattle.std.proofs.lemmas.Bool.{ne_eqb, and_parts, leb-true}
use Rattle.std.proofs.lemmas.Str.{IsUtf8-from_ascii}
use Rattle.std.proofs.lemmas.List.Elements.{All-nil, All-cons}
use Rattle.std.proofs.lemmas.List.Kept.{AllPairs-cons}
use Rattle.hex.specs.Hex.{encode_with, encode_lower, lower_digits}
use Rattle.grasp_cbor.specs.Bytes.{AllBytes}
use Rattle.grasp_cbor.proofs.Facts.Lists.{length_filter, map_append}
use Rattle.grasp_cbor.proofs.HeadBytes.{AllBytes-from}
use Rattle.grasp_text.specs.Line.{prefix_word, v6_word}
use Rattle.grasp_text.specs.Words.{words_of}
use Rattle.grasp_text.proofs.HexWords.{wide128}
use Rattle.grasp_text.proofs.NumberWords.{number_digit, number_digit_most}
use Rattle.grasp_text.proofs.Pushed.{joined_spaced}
use Rattle.grasp_model_network.specs.Plans.{IsNode, IsGoodRoot, AreApart, IsGoodLink, IsGoodPlan}
use Rattle.grasp_model_network.specs.Setting.{is_on}
use Rattle.grasp_model_network.specs.declared.plan.RootAt.{RootAt}
use Rattle.grasp_model_network.specs.declared.plan.WorldPlan.{WorldPlan}
use Rattle.grasp_script.specs.Headers.{header_words, header_line_words}
use Rattle.grasp_script.specs.Scripts.{IsHeader}
use Rattle.grasp_script.specs.declared.header.HeaderLine.{HeaderLine}
use Rattle.grasp_script.specs.declared.header.HeaderLine.TheVariants.{Root, Link}
use Rattle.grasp_script_draws.specs.Generator.{line, root_of, root_line, root_lines, link_line, chain_lines, nodes_line, start_line, header_lines}
use Rattle.grasp_script.proofs.Lists.{all_push}
use Rattle.grasp_script.proofs.WholeWords.{IsWord, words_again, spelled, number}
use Rattle.grasp_laws_draws.proofs.LineEnds.{has_no_end, HasNoEnd, nothing_ends, byte_ends, number_ends, line_ends}

-- ---- the word of a prefix

-- a hexadecimal digit
abbrev is_digit : ℕ → Bool
is_digit c = leb 33 c && leb c 126

digit_fine : (d : ℕ) → d < 16 → is_digit (slice_index lower_digits d) ≡ true
digit_fine (suc (suc (suc (suc (suc (suc (suc (suc (suc (suc (suc (suc (suc (suc (suc (suc n)))))))))))))))) lt = absurd (omega arith)
digit_fine _ lt = refl

-- bytes of ASCII that are neither blanks nor line ends
record IsPlain (w : List ℕ) : Type 0 where
  each : AllByRecursion (λ c. (33 ≤ c) × (c ≤ 126)) w

plain_digit : (d : ℕ) → d < 16 → (33 ≤ slice_index lower_digits d) × (slice_index lower_digits d ≤ 126)
plain_digit d lt =
    let p = and_parts (leb 33 (slice_index lower_digits d)) (leb (slice_index lower_digits d) 126) (digit_fine d lt) in
    (leb-true 33 (slice_index lower_digits d) p.0, leb-true (slice_index lower_digits d) 126 p.1)

hex_plain : (bytes : List ℕ) → AllBytes bytes → IsPlain (encode_lower bytes)
unfolding encode_with
hex_plain [] h = record { each = tt }
hex_plain (b ∷ bytes) h =
    let small : b < 256 = h.0 in
    record { each = (plain_digit (b / 16) (omega arith), (plain_digit (b % 16) (omega arith), (hex_plain bytes h.1).each)) }

plain_append : (a b : List ℕ) → IsPlain a → IsPlain b → IsPlain (a ++ b)
plain_append [] b p q = q
plain_append (x ∷ a) b p q = record { each = (p.each.0, (plain_append a b (record { each = p.each.1 }) q).each) }

plain_bytes : (w : List ℕ) → ((i : ℕ) → i < length w → (33 ≤ get_or w i 0) × (get_or w i 0 ≤ 126)) → IsPlain w
plain_bytes [] h = record { each = tt }
plain_bytes (c ∷ w) h = record { each = (h 0 (omega arith), (plain_bytes w (λ i lt. h (suc i) (omega arith))).each) }

number_plain : (n : ℕ) → n < 2 ^ 64 → IsPlain (decimal n)
number_plain n lt = plain_bytes (decimal n) (λ i inside. let d = number_digit n i lt inside in let u = number_digit_most n i lt inside in (omega arith, omega arith))

plain_ends : (w : List ℕ) → IsPlain w → HasNoEnd w
plain_ends [] p = nothing_ends
plain_ends (x ∷ w) p = let low : 33 ≤ x = p.each.0.0 in byte_ends x w (λ e. omega arith) (plain_ends w (record { each = p.each.1 }))

-- the words of one byte more
abbrev one_more : ℕ → Bool → List (List ℕ) → List (List ℕ)
one_more x b parts = cond b ([] ∷ parts) (onto_first x parts)

plain_whole : (w : List ℕ) → IsPlain w → words_of w ≡ w ∷ []
plain_whole [] p = refl
plain_whole (x ∷ w) p =
    let low : 33 ≤ x = p.each.0.0 in
    ap (λ (b : Bool). one_more x b (words_of w)) (ne_eqb x 32 (λ e. omega arith)) ∙ ap (onto_first x) (plain_whole w (record { each = p.each.1 }))

plain_small : (w : List ℕ) → IsPlain w → (i : ℕ) → slice_index w i < 128
plain_small [] p zero = omega arith
plain_small [] p (suc i) = omega arith
plain_small (x ∷ w) p zero = let most : x ≤ 126 = p.each.0.1 in omega arith
plain_small (x ∷ w) p (suc i) = plain_small w (record { each = p.each.1 }) i

plain_word : (w : List ℕ) → IsPlain w → IsWord w
plain_word w p = record { whole = plain_whole w p; utf8 = IsUtf8-from_ascii w (plain_small w p) }

v6_plain : (n : ℕ) → IsPlain (v6_word n)
v6_plain n = hex_plain (to_be_bytes w128 n) (AllBytes-from (to_be_bytes w128 n) (wide128.small n))

prefix_plain : (k : ℕ) → IsPlain (prefix_word (root_of k))
unfolding root_of
prefix_plain k = plain_append (v6_word ((137456629760 + k) * 2 ^ 88)) (47 ∷ decimal 40) (v6_plain ((137456629760 + k) * 2 ^ 88)) (record { each = ((omega arith, omega arith), (number_plain 40 (omega arith)).each) })

-- ---- the plan

ring_root : ℕ → RootAt
ring_root k = record { node = k; root = record { address = (137456629760 + k) * 2 ^ 88; length = 40 } }

ring_roots : List RootAt
ring_roots = ring_root 1 ∷ ring_root 2 ∷ ring_root 3 ∷ ring_root 4 ∷ []

chain : ℕ → List (List ℕ)
chain zero = []
chain (suc n) = chain n ++ ((n + 1) ∷ (n + 2) ∷ []) ∷ []

ring_links : List (List ℕ)
ring_links = chain 15 ++ (16 ∷ 1 ∷ []) ∷ []

pub ring_plan : WorldPlan
ring_plan = record { nodes = 16; limit = 2048; roots = ring_roots; links = ring_links }

pair_good : (a b : ℕ) → IsNode 16 a → IsNode 16 b → a ≢ b → IsGoodLink 16 (a ∷ b ∷ [])
pair_good a b p q ne = record {
  least = omega arith;
  most = omega arith;
  members = All-cons (IsNode 16) a (b ∷ []) p (All-cons (IsNode 16) b [] q (All-nil (IsNode 16)));
  different =
      AllPairs-cons (λ x y. x ≢ y) a (b ∷ []) (All-cons (λ y. a ≢ y) b [] ne (All-nil (λ y. a ≢ y)))
      (AllPairs-cons (λ x y. x ≢ y) b [] (All-nil (λ y. b ≢ y)) (λ i j d l m. absurd (omega (arith, m))));
}

chain_good : (n : ℕ) → n ≤ 15 → All (IsGoodLink 16) (chain n)
unfolding chain
chain_good zero le = All-nil (IsGoodLink 16)
chain_good (suc n) le =
    all_push (IsGoodLink 16) (chain n) ((n + 1) ∷ (n + 2) ∷ []) (chain_good n (omega arith))
    (pair_good (n + 1) (n + 2) (record { least = omega arith; most = omega arith }) (record { least = omega arith; most = omega arith }) (λ e. omega arith))

links_good : All (IsGoodLink 16) ring_links
unfolding ring_links
links_good = all_push (IsGoodLink 16) (chain 15) (16 ∷ 1 ∷ []) (chain_good 15 (omega arith)) (pair_good 16 1 (record { least = omega arith; most = omega arith }) (record { least = omega arith; most = omega arith }) (λ e. omega arith))

root_good : (k : ℕ) → IsNode 16 k → k ≤ 4 → IsGoodRoot 16 (ring_root k)
unfolding ring_root
root_good k is le = record {
  node = is;
  valid = record { least = omega arith; most = omega arith; within = omega arith; aligned = (137456629760 + k, refl) };
}

roots_apart : (j k : ℕ) → j < k → AreApart (ring_root j) (ring_root k)
unfolding ring_root
roots_apart j k lt a p q = let high = p.1 in let low = q.0 in omega arith

roots_good : All (IsGoodRoot 16) ring_roots
unfolding ring_roots
roots_good =
    let node : (k : ℕ) → 1 ≤ k → k ≤ 4 → IsNode 16 k = λ k l m. record { least = l; most = omega arith } in
    All-cons (IsGoodRoot 16) (ring_root 1) (ring_root 2 ∷ ring_root 3 ∷ ring_root 4 ∷ []) (root_good 1 (node 1 (omega arith) (omega arith)) (omega arith))
    (All-cons (IsGoodRoot 16) (ring_root 2) (ring_root 3 ∷ ring_root 4 ∷ []) (root_good 2 (node 2 (omega arith) (omega arith)) (omega arith))
    (All-cons (IsGoodRoot 16) (ring_root 3) (ring_root 4 ∷ []) (root_good 3 (node 3 (omega arith) (omega arith)) (omega arith))
    (All-cons (IsGoodRoot 16) (ring_root 4) [] (root_good 4 (node 4 (omega arith) (omega arith)) (omega arith)) (All-nil (IsGoodRoot 16)))))

roots_differ : AllPairs AreApart ring_roots
unfolding ring_roots
roots_differ =
    let apart : (j k : ℕ) → j < k → AreApart (ring_root j) (ring_root k) = roots_apart in
    AllPairs-cons AreApart (ring_root 1) (ring_root 2 ∷ ring_root 3 ∷ ring_root 4 ∷ [])
    (All-cons (AreApart (ring_root 1)) (ring_root 2) (ring_root 3 ∷ ring_root 4 ∷ []) (apart 1 2 (omega arith)) (All-cons (AreApart (ring_root 1)) (ring_root 3) (ring_root 4 ∷ []) (apart 1 3 (omega arith)) (All-cons (AreApart (ring_root 1)) (ring_root 4) [] (apart 1 4 (omega arith)) (All-nil (AreApart (ring_root 1))))))
    (AllPairs-cons AreApart (ring_root 2) (ring_root 3 ∷ ring_root 4 ∷ [])
    (All-cons (AreApart (ring_root 2)) (ring_root 3) (ring_root 4 ∷ []) (apart 2 3 (omega arith)) (All-cons (AreApart (ring_root 2)) (ring_root 4) [] (apart 2 4 (omega arith)) (All-nil (AreApart (ring_root 2)))))
    (AllPairs-cons AreApart (ring_root 3) (ring_root 4 ∷ [])
    (All-cons (AreApart (ring_root 3)) (ring_root 4) [] (apart 3 4 (omega arith)) (All-nil (AreApart (ring_root 3))))
    (AllPairs-cons AreApart (ring_root 4) [] (All-nil (AreApart (ring_root 4))) (λ i j d l m. absurd (omega (arith, m))))))

links_count : length ring_links ≡ 16
unfolding ring_links chain
links_count = refl

few : length ring_roots ≤ 1024
unfolding ring_roots
few = omega arith

pub ring_good : IsGoodPlan ring_plan
unfolding ring_plan
ring_good = record {
  least_nodes = omega arith;
  most_nodes = omega arith;
  least_limit = omega arith;
  most_limit = omega arith;
  few_roots = few;
  roots = roots_good;
  apart = roots_differ;
  links = links_good;
  few_links = λ node is. let k : length ring_links ≡ 16 = links_count in omega (arith, length_filter (is_on node) ring_links);
}

-- ---- the words of its lines

told_roots : List HeaderLine
told_roots = Root (ring_root 1) ∷ Root (ring_root 2) ∷ Root (ring_root 3) ∷ Root (ring_root 4) ∷ []

told_chain : ℕ → List HeaderLine
told_chain zero = []
told_chain (suc n) = told_chain n ++ Link ((n + 1) ∷ (n + 2) ∷ []) ∷ []

-- the text is a line of these words, and holds no line end
record IsLineOf (text : List ℕ) (words : List (List ℕ)) : Type 0 where
  spelled_so : words_of text ≡ words
  ends : HasNoEnd text

plain_line : (w : List ℕ) (ws : List (List ℕ)) → IsWord w → AllByRecursion IsWord ws → HasNoEnd w → AllByRecursion HasNoEnd ws → IsLineOf (line w ws) (w ∷ ws)
plain_line w ws h k e f = record { spelled_so = ap words_of (sym (joined_spaced w ws)) ∙ words_again w ws h k; ends = line_ends w ws e f }

number_line : (w : List ℕ) (m n : ℕ) → IsWord w → HasNoEnd w → m ≤ 16 → n ≤ 16 → IsLineOf (line w (decimal m ∷ decimal n ∷ [])) (w ∷ decimal m ∷ decimal n ∷ [])
number_line w m n h e p q =
    plain_line w (decimal m ∷ decimal n ∷ []) h (number m (omega arith), (number n (omega arith), tt)) e (number_ends m (omega arith), (number_ends n (omega arith), tt))

root_spelled : (k : ℕ) → k ≤ 4 → IsLineOf (root_line k) (header_line_words (Root (ring_root k)))
unfolding root_of ring_root has_no_end
root_spelled k le =
    plain_line (codes "root") (decimal k ∷ prefix_word (root_of k) ∷ []) (spelled (codes "root") refl refl) (number k (omega arith), (plain_word (prefix_word (root_of k)) (prefix_plain k), tt))
    (record { none = refl }) (number_ends k (omega arith), (plain_ends (prefix_word (root_of k)) (prefix_plain k), tt))

link_spelled : (m n : ℕ) → m ≤ 16 → n ≤ 16 → IsLineOf (link_line m n) (header_line_words (Link (m ∷ n ∷ [])))
unfolding has_no_end
link_spelled m n p q = number_line (codes "link") m n (spelled (codes "link") refl refl) (record { none = refl }) p q

pub both_end : (xs ys : List (List ℕ)) → AllByRecursion HasNoEnd xs → AllByRecursion HasNoEnd ys → AllByRecursion HasNoEnd (xs ++ ys)
both_end [] ys p q = q
both_end (x ∷ xs) ys p q = (p.0, both_end xs ys p.1 q)

chain_words : (n : ℕ) → n ≤ 15 → map words_of (chain_lines n) ≡ map header_line_words (told_chain n)
unfolding told_chain
chain_words zero le = refl
chain_words (suc n) le =
    map_append words_of (chain_lines n) (link_line (n + 1) (n + 2) ∷ [])
    ∙ ap (λ (t : List (List (List ℕ))). t ++ words_of (link_line (n + 1) (n + 2)) ∷ []) (chain_words n (omega arith))
    ∙ ap (λ (t : List (List ℕ)). map header_line_words (told_chain n) ++ t ∷ []) (link_spelled (n + 1) (n + 2) (omega arith) (omega arith)).spelled_so
    ∙ sym (map_append header_line_words (told_chain n) (Link ((n + 1) ∷ (n + 2) ∷ []) ∷ []))

chain_ends : (n : ℕ) → n ≤ 15 → AllByRecursion HasNoEnd (chain_lines n)
chain_ends zero le = tt
chain_ends (suc n) le = both_end (chain_lines n) (link_line (n + 1) (n + 2) ∷ []) (chain_ends n (omega arith)) ((link_spelled (n + 1) (n + 2) (omega arith) (omega arith)).ends, tt)

told_lines : List HeaderLine
told_lines = told_roots ++ (told_chain 15 ++ Link (16 ∷ 1 ∷ []) ∷ [])

nodes_spelled : IsLineOf nodes_line (codes "nodes" ∷ decimal 16 ∷ [])
unfolding has_no_end
nodes_spelled = plain_line (codes "nodes") (decimal 16 ∷ []) (spelled (codes "nodes") refl refl) (number 16 (omega arith), tt) (record { none = refl }) (number_ends 16 (omega arith), tt)

start_spelled : IsLineOf start_line (codes "start" ∷ [])
unfolding has_no_end
start_spelled = plain_line (codes "start") [] (spelled (codes "start") refl refl) tt (record { none = refl }) tt

abbrev all_words : List (List ℕ) → List (List (List ℕ))
all_words ls = map words_of ls

abbrev all_told : List HeaderLine → List (List (List ℕ))
all_told told = map header_line_words told

roots_words : all_words (root_lines 4) ≡ all_told told_roots
unfolding told_roots
roots_words =
    let a = (root_spelled 1 (omega arith)).spelled_so in
    let b = (root_spelled 2 (omega arith)).spelled_so in
    let c = (root_spelled 3 (omega arith)).spelled_so in
    let d = (root_spelled 4 (omega arith)).spelled_so in
    cons a (cons b (cons c (cons d refl)))
  where
    cons : {x y : List (List ℕ)} {xs ys : List (List (List ℕ))} → x ≡ y → xs ≡ ys → x ∷ xs ≡ y ∷ ys
    cons {x} {y} {xs} {ys} p q = ap (λ (t : List (List ℕ)). t ∷ xs) p ∙ ap (λ (t : List (List (List ℕ))). y ∷ t) q

tail_words : all_words (link_line 16 1 ∷ start_line ∷ []) ≡ header_line_words (Link (16 ∷ 1 ∷ [])) ∷ (codes "start" ∷ []) ∷ []
tail_words =
    ap (λ (t : List (List ℕ)). t ∷ words_of start_line ∷ []) (link_spelled 16 1 (omega arith) (omega arith)).spelled_so
    ∙ ap (λ (t : List (List ℕ)). header_line_words (Link (16 ∷ 1 ∷ [])) ∷ t ∷ []) start_spelled.spelled_so

header_spelled : all_words header_lines ≡ header_words 16 None told_lines
unfolding header_lines told_lines
header_spelled =
    ap (λ (t : List (List ℕ)). t ∷ all_words (root_lines 4 ++ (chain_lines 15 ++ (link_line 16 1 ∷ start_line ∷ [])))) nodes_spelled.spelled_so
    ∙ ap (λ (t : List (List (List ℕ))). (codes "nodes" ∷ decimal 16 ∷ []) ∷ t) behind
  where
    ends : List (List (List ℕ))
    ends = (codes "start" ∷ []) ∷ []

    last : List (List (List ℕ))
    last = header_line_words (Link (16 ∷ 1 ∷ [])) ∷ []

    front : all_words (root_lines 4 ++ (chain_lines 15 ++ (link_line 16 1 ∷ start_line ∷ []))) ≡ all_told told_roots ++ (all_told (told_chain 15) ++ (last ++ ends))
    front =
        map_append words_of (root_lines 4) (chain_lines 15 ++ (link_line 16 1 ∷ start_line ∷ []))
        ∙ ap (λ (t : List (List (List ℕ))). t ++ all_words (chain_lines 15 ++ (link_line 16 1 ∷ start_line ∷ []))) roots_words
        ∙ ap (λ (t : List (List (List ℕ))). all_told told_roots ++ t) (map_append words_of (chain_lines 15) (link_line 16 1 ∷ start_line ∷ []))
        ∙ ap (λ (t : List (List (List ℕ))). all_told told_roots ++ (t ++ all_words (link_line 16 1 ∷ start_line ∷ []))) (chain_words 15 (omega arith))
        ∙ ap (λ (t : List (List (List ℕ))). all_told told_roots ++ (all_told (told_chain 15) ++ t)) tail_words

    back : all_told (told_roots ++ (told_chain 15 ++ Link (16 ∷ 1 ∷ []) ∷ [])) ++ ends ≡ all_told told_roots ++ (all_told (told_chain 15) ++ (last ++ ends))
    back =
        ap (λ (t : List (List (List ℕ))). t ++ ends) (map_append header_line_words told_roots (told_chain 15 ++ Link (16 ∷ 1 ∷ []) ∷ []))
        ∙ append_assoc (all_told told_roots) (all_told (told_chain 15 ++ Link (16 ∷ 1 ∷ []) ∷ [])) ends
        ∙ ap (λ (t : List (List (List ℕ))). all_told told_roots ++ (t ++ ends)) (map_append header_line_words (told_chain 15) (Link (16 ∷ 1 ∷ []) ∷ []))
        ∙ ap (λ (t : List (List (List ℕ))). all_told told_roots ++ t) (append_assoc (all_told (told_chain 15)) last ends)

    behind : all_words (root_lines 4 ++ (chain_lines 15 ++ (link_line 16 1 ∷ start_line ∷ []))) ≡ all_told (told_roots ++ (told_chain 15 ++ Link (16 ∷ 1 ∷ []) ∷ [])) ++ ends
    behind = front ∙ sym back

pub header_ends : AllByRecursion HasNoEnd header_lines
unfolding header_lines
header_ends = (
  nodes_spelled.ends,
  both_end (root_lines 4) (chain_lines 15 ++ (link_line 16 1 ∷ start_line ∷ []))
      ((root_spelled 1 (omega arith)).ends, ((root_spelled 2 (omega arith)).ends, ((root_spelled 3 (omega arith)).ends, ((root_spelled 4 (omega arith)).ends, tt))))
      (both_end (chain_lines 15) (link_line 16 1 ∷ start_line ∷ []) (chain_ends 15 (omega arith)) ((link_spelled 16 1 (omega arith) (omega arith)).ends, (start_spelled.ends, tt))),
)

pub drawn_header : IsHeader header_lines ring_plan
unfolding ring_plan ring_roots ring_links chain told_lines told_roots told_chain
drawn_header = record { size = None; told = told_lines; is_plan = refl; good = ring_good; spelled = header_spelled }

pub ring_nodes : ring_plan.nodes ≡ 16
unfolding ring_plan
ring_nodes = refl
