use Rattle.std.proofs.Common.{[], ◌∷◌, ◌++◌}
use Rattle.grasp_cbor.proofs.Facts.Options.{on_ok}
use Rattle.grasp_script_draws.specs.Generator.{nodes_line, root_lines, chain_lines, link_line, start_line, header_lines}
use Rattle.grasp_script_draws.proofs.LinesWritten.{lines_pushed}
use Rattle.grasp_script_draws.proofs.header.push_header.Goals as goal

pub returns : goal.returns
unfolding header_lines
returns c = on_ok c.push_line-3.result c.push_line-3.ensures (λ e.
    lines_pushed _ _ _ (nodes_line ∷ []) (root_lines 4 ++ (chain_lines 15 ++ (link_line 16 1 ∷ start_line ∷ []))) c.in_ok-push_line.ensures
    (lines_pushed _ _ _ (root_lines 4) (chain_lines 15 ++ (link_line 16 1 ∷ start_line ∷ [])) c.in_ok-push_roots.ensures
    (lines_pushed _ _ _ (chain_lines 15) (link_line 16 1 ∷ start_line ∷ []) c.in_ok-push_chain.ensures
    (lines_pushed _ _ _ (link_line 16 1 ∷ []) (start_line ∷ []) c.in_ok-push_line-2.ensures e))))
