use Rattle.std.proofs.Common.{rules, arith, ◌≡◌, ◌∷◌, [], true, false, List, sym, ap, ◌∙◌}
use Rattle.std.proofs.lemmas.Grind.{common_steps}
use Rattle.std.specs.List.{list_any}
use Rattle.std.specs.Str.{bytes_eq}
use Rattle.std.specs.Prelude.{string_bytes}
use Rattle.toml.specs.View.{members_view}
use Rattle.toml.proofs.Views.{Entry}
use Rattle.grasp_config.specs.Parts.{keys_of}
use Rattle.grasp_config.specs.Table.{has_only}
use Rattle.grasp_config.proofs.KnownKeys.{known_first, unknown_first, none_unknown}
use Rattle.grasp_config.proofs.table.has_only.Goals as goal

pub returns-then-not-is_key : goal.returns-then-not-is_key
returns-then-not-is_key c =
    let e : Entry = (c.in-Some.key.now, c.in-Some._value.now) in
    let iter : c.loop-key.key-iterator ≡ e ∷ c.next.new.self = grind (arith, common_steps) in
    let unknown : list_any (bytes_eq (string_bytes e.0)) (keys_of c.args.part) ≡ false = search rules in
    sym (sym c.loop-key.invariant.2 ∙ ap (λ (es : List Entry). has_only (keys_of c.args.part) (members_view es)) iter ∙ unknown_first (keys_of c.args.part) e c.next.new.self unknown)

pub loop-key-preserved : goal.loop-key-preserved
loop-key-preserved c =
    let e : Entry = (c.in-Some.key.now, c.in-Some._value.now) in
    let iter : c.loop-key.key-iterator ≡ e ∷ c.next.new.self = grind (arith, common_steps) in
    let known : list_any (bytes_eq (string_bytes e.0)) (keys_of c.args.part) ≡ true = search rules in
    (tt, tt, sym (known_first (keys_of c.args.part) e c.next.new.self known) ∙ sym (ap (λ (es : List Entry). has_only (keys_of c.args.part) (members_view es)) iter) ∙ c.loop-key.invariant.2)

pub returns : goal.returns
returns c =
    let iter : c.loop-key.key-iterator ≡ [] = grind (arith, common_steps) in
    sym (sym c.loop-key.invariant.2 ∙ ap (λ (es : List Entry). has_only (keys_of c.args.part) (members_view es)) iter ∙ none_unknown (keys_of c.args.part))
