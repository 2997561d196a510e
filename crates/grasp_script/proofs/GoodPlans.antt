-- Good plans with one more line of their header, and with fewer.
use Rattle.std.proofs.Common.{◌≡◌, ℕ, ◌<◌, ◌≤◌, Bool, true, false, List, [], ◌∷◌, ◌++◌, length, map, refl, sym, ap, subst, ◌∙◌, Option, arith, length-append}
use Rattle.std.specs.Prelude.{codes, decimal}
use Rattle.std.proofs.lemmas.List.{append-nil}
use Rattle.grasp_model_network.specs.Plans.{IsGoodRoot, AreApart, IsGoodLink, IsGoodPlan}
use Rattle.grasp_model_network.specs.Setting.{is_on, lines_of}
use Rattle.grasp_model_network.specs.declared.plan.RootAt.{RootAt}
use Rattle.grasp_model_network.specs.declared.plan.WorldPlan.{WorldPlan}
use Rattle.grasp_script.specs.Headers.{RootFits, LinkFits, root_words, header_line_words, limit_of, roots_told, links_told, plan_told, plan_with}
use Rattle.grasp_script.specs.declared.header.HeaderLine.{HeaderLine}
use Rattle.grasp_script.specs.declared.header.HeaderLine.TheVariants.{Root, Link}
use Rattle.grasp_script.proofs.Lists.{all_front, all_last, all_push, pairs_front, pairs_last, pairs_push, kept_front, kept_last, dropped_last}

-- ---- one more root

pub root_fits : (p : WorldPlan) (r : RootAt) → IsGoodPlan p → RootFits p r → IsGoodPlan (plan_with p (Root r))
root_fits p r h f = record {
  least_nodes = h.least_nodes;
  most_nodes = h.most_nodes;
  least_limit = h.least_limit;
  most_limit = h.most_limit;
  few_roots = let few = f.few in omega (arith, length-append p.roots (r ∷ []));
  roots = all_push (IsGoodRoot p.nodes) p.roots r h.roots f.good;
  apart = pairs_push AreApart p.roots r h.apart f.apart;
  links = h.links;
  few_links = h.few_links;
}

pub root_fitted : (p : WorldPlan) (r : RootAt) → IsGoodPlan (plan_with p (Root r)) → RootFits p r
root_fitted p r h = record {
  good = all_last (IsGoodRoot p.nodes) p.roots r h.roots;
  few = let few = h.few_roots in omega (arith, length-append p.roots (r ∷ []));
  apart = pairs_last AreApart p.roots r h.apart;
}

-- ---- one more link

few_with : (p : WorldPlan) (members : List ℕ) (node : ℕ) (b : Bool) → is_on node members ≡ b → length (lines_of node p.links) ≤ 16 → (is_on node members ≡ true → length (lines_of node p.links) < 16) → length (lines_of node (p.links ++ members ∷ [])) ≤ 16
few_with p members node true e few room = let less = room e in omega (arith, kept_last (is_on node) p.links members e)
few_with p members node false e few room = omega (arith, few, dropped_last (is_on node) p.links members e)

pub link_fits : (p : WorldPlan) (members : List ℕ) → IsGoodPlan p → LinkFits p members → IsGoodPlan (plan_with p (Link members))
link_fits p members h f = record {
  least_nodes = h.least_nodes;
  most_nodes = h.most_nodes;
  least_limit = h.least_limit;
  most_limit = h.most_limit;
  few_roots = h.few_roots;
  roots = h.roots;
  apart = h.apart;
  links = all_push (IsGoodLink p.nodes) p.links members h.links f.good;
  few_links = λ node is. few_with p members node (is_on node members) refl (h.few_links node is) (f.room node is);
}

pub link_fitted : (p : WorldPlan) (members : List ℕ) → IsGoodPlan (plan_with p (Link members)) → LinkFits p members
link_fitted p members h = record {
  good = all_last (IsGoodLink p.nodes) p.links members h.links;
  room = λ node is on. let few = h.few_links node is in omega (arith, kept_last (is_on node) p.links members on);
}

-- ---- fewer lines

pub roots_append : (told more : List HeaderLine) → roots_told (told ++ more) ≡ roots_told told ++ roots_told more
roots_append [] more = refl
roots_append (Root r ∷ told) more = ap (λ (t : List RootAt). r ∷ t) (roots_append told more)
roots_append (Link members ∷ told) more = roots_append told more

pub links_append : (told more : List HeaderLine) → links_told (told ++ more) ≡ links_told told ++ links_told more
links_append [] more = refl
links_append (Root r ∷ told) more = links_append told more
links_append (Link members ∷ told) more = ap (λ (t : List (List ℕ)). members ∷ t) (links_append told more)

-- a plan with fewer roots and links is good where it was
shorter : (nodes limit : ℕ) (roots more : List RootAt) (links others : List (List ℕ)) → IsGoodPlan (record { nodes = nodes; limit = limit; roots = roots ++ more; links = links ++ others }) → IsGoodPlan (record { nodes = nodes; limit = limit; roots = roots; links = links })
shorter nodes limit roots more links others h = record {
  least_nodes = h.least_nodes;
  most_nodes = h.most_nodes;
  least_limit = h.least_limit;
  most_limit = h.most_limit;
  few_roots = let few = h.few_roots in omega (arith, length-append roots more);
  roots = all_front (IsGoodRoot nodes) roots more h.roots;
  apart = pairs_front AreApart roots more h.apart;
  links = all_front (IsGoodLink nodes) links others h.links;
  few_links = λ node is. let few = h.few_links node is in omega (arith, kept_front (is_on node) links others);
}

pub good_front : (nodes : ℕ) (size : Option ℕ) (told more : List HeaderLine) → IsGoodPlan (plan_told nodes size (told ++ more)) → IsGoodPlan (plan_told nodes size told)
good_front nodes size told more h =
    let roots : roots_told (told ++ more) ≡ roots_told told ++ roots_told more = roots_append told more in
    let links : links_told (told ++ more) ≡ links_told told ++ links_told more = links_append told more in
    let same : plan_told nodes size (told ++ more) ≡ record { nodes = nodes; limit = limit_of size; roots = roots_told told ++ roots_told more; links = links_told told ++ links_told more } = (λ i. record { nodes = nodes; limit = limit_of size; roots = roots i; links = links i }) in
    shorter nodes (limit_of size) (roots_told told) (roots_told more) (links_told told) (links_told more) (subst IsGoodPlan same h)

-- one more line tells the plan with it
pub plan_more : (nodes : ℕ) (size : Option ℕ) (told : List HeaderLine) (line : HeaderLine) → plan_told nodes size (told ++ line ∷ []) ≡ plan_with (plan_told nodes size told) line
plan_more nodes size told (Root r) = (λ i. record { nodes = nodes; limit = limit_of size; roots = roots_append told (Root r ∷ []) i; links = (links_append told (Root r ∷ []) ∙ append-nil (links_told told)) i })
plan_more nodes size told (Link members) = (λ i. record { nodes = nodes; limit = limit_of size; roots = (roots_append told (Link members ∷ []) ∙ append-nil (roots_told told)) i; links = links_append told (Link members ∷ []) i })

-- ---- lines that don't fit

-- the first byte of a line's first word
abbrev first_byte : List (List ℕ) → ℕ
first_byte [] = 0
first_byte ([] ∷ words) = 0
first_byte ((b ∷ word) ∷ words) = b

pub no_root_line : (p : WorldPlan) (words rest : List (List ℕ)) (name : List ℕ) → words ≡ name ∷ rest → name ≡ codes "root" → ((r : RootAt) → rest ≡ root_words r → ¬ RootFits p r) → (i : HeaderLine) → words ≡ header_line_words i → ¬ IsGoodPlan (plan_with p i)
no_root_line p words rest name e n none (Root r) is good =
    let both : name ∷ rest ≡ codes "root" ∷ root_words r = sym e ∙ is in
    let tail : rest ≡ root_words r = cc in
    none r tail (root_fitted p r good)
no_root_line p words rest name e n none (Link m) is good =
    let both : codes "root" ∷ rest ≡ header_line_words (Link m) = ap (λ (w : List ℕ). w ∷ rest) (sym n) ∙ sym e ∙ is in
    absurd (omega (arith, ap first_byte both))

pub no_link_line : (p : WorldPlan) (words rest : List (List ℕ)) (name : List ℕ) → words ≡ name ∷ rest → name ≡ codes "link" → ((m : List ℕ) → rest ≡ map decimal m → ¬ LinkFits p m) → (i : HeaderLine) → words ≡ header_line_words i → ¬ IsGoodPlan (plan_with p i)
no_link_line p words rest name e n none (Link m) is good =
    let both : name ∷ rest ≡ codes "link" ∷ map decimal m = sym e ∙ is in
    let tail : rest ≡ map decimal m = cc in
    none m tail (link_fitted p m good)
no_link_line p words rest name e n none (Root r) is good =
    let both : codes "link" ∷ rest ≡ header_line_words (Root r) = ap (λ (w : List ℕ). w ∷ rest) (sym n) ∙ sym e ∙ is in
    absurd (omega (arith, ap first_byte both))
