use Rattle.std.proofs.Common.{◌++◌, List, ℕ, get_or, sym, ap, ◌∙◌, append_assoc, take}
use Rattle.grasp_text.specs.Line.{all_escaped, escaped}
use Rattle.grasp_text.proofs.TextWords.{escaped_more}
use Rattle.grasp_quick.proofs.room.Room.put_all_escaped.Goals as goal

pub loop-byte-preserved : goal.loop-byte-preserved
loop-byte-preserved c =
    let xs : List ℕ = c.args.text.now in
    let i : ℕ = c.loop-byte.byte-index in
    let old : List ℕ = c.args.self.now in
    let next : List ℕ = escaped (get_or xs i 0) in
    let more = escaped_more xs i c.loop-byte-test.true in
    c.in_ok-put_escaped.ensures ∙ ap (λ (x : List ℕ). x ++ next) c.loop-byte.invariant ∙ append_assoc old (all_escaped (take i xs)) next ∙ ap (λ (x : List ℕ). old ++ x) (sym more)
