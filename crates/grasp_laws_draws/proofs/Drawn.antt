-- The texts that are drawn from numbers are scripts.
use Rattle.std.proofs.Common.{◌≡◌, ℕ, List, ◌++◌, sym, ap, subst, ◌∙◌, arith}
use Rattle.std.specs.List.{AllByRecursion}
use Rattle.grasp_script.specs.Scripts.{texts, text_lines, IsItsLine}
use Rattle.grasp_script_draws.specs.Generator.{header_lines, rounds, script_lines, script_of}
use Rattle.grasp_laws_draws.specs.Generated.{DrawnTextsAreScripts}
use Rattle.grasp_laws_draws.proofs.LineEnds.{lines_again}
use Rattle.grasp_laws_draws.proofs.DrawnActs.{IsActText, rounds_texts, rounds_count, lines_for, texts_for, count_for, meant_for, ends_for}
use Rattle.grasp_laws_draws.proofs.DrawnHeader.{ring_plan, ring_nodes, drawn_header, header_ends, both_end}

texts_of : (number : ℕ) → AllByRecursion IsActText (rounds 800 number)
texts_of number = rounds_texts 800 number (omega arith)

split : (number : ℕ) → text_lines (script_of number) ≡ header_lines ++ texts (lines_for (rounds 800 number) (texts_of number))
unfolding script_of script_lines
split number =
    lines_again (header_lines ++ rounds 800 number) (both_end header_lines (rounds 800 number) header_ends (ends_for (rounds 800 number) (texts_of number)))
    ∙ ap (λ (t : List (List ℕ)). header_lines ++ t) (sym (texts_for (rounds 800 number) (texts_of number)))

pub drawn_texts_are_scripts : DrawnTextsAreScripts
drawn_texts_are_scripts number = record {
  plan = ring_plan;
  lines = lines_for (rounds 800 number) (texts_of number);
  script = record {
    header = header_lines;
    is_header = drawn_header;
    meant =
        subst (λ (n : ℕ). AllByRecursion (IsItsLine n) (lines_for (rounds 800 number) (texts_of number))) (sym ring_nodes)
        (meant_for (rounds 800 number) (texts_of number));
    parts = split number;
  };
  nodes = ring_nodes;
  count = count_for (rounds 800 number) (texts_of number) ∙ rounds_count 800 number;
}
