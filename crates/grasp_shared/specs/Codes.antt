-- Inside: how the logic stores what passes know.
use Rattle.std.specs.Prelude.{ℕ, refl}
use Rattle.std.specs.Coded.{Coded, code_by, coded×, coded_ℕ, coded_list, coded_option}
use Rattle.grasp_types.specs.contracts.reply.Reply as reply
use Rattle.grasp_types.specs.contracts.traffic.Input as input
use Rattle.grasp_core.specs.contracts.node_core.NodeCore as core
use Rattle.grasp_types.specs.declared.reply.Reply.{Reply}
use Rattle.grasp_types.specs.declared.traffic.Input.{Input}
use Rattle.grasp_shared.specs.Calls.{Kept, Opened}
use Rattle.grasp_shared.specs.History.{Entry, History}

-- an entry is stored as the tuple of its fields
abbrev pub entry_code : Coded Entry
entry_code =
    code_by (ℕ × (ℕ × (Input × Reply))) (coded× coded_ℕ (coded× coded_ℕ (coded× input.the_row.coded reply.the_row.coded)))
    (λ e. (e.caller, (e.now, (e.input, e.reply)))) (λ p. record { caller = p.0; now = p.1.0; input = p.1.1.0; reply = p.1.1.1 }) (λ _. refl)

abbrev pub history_code : Coded History
history_code = coded_list entry_code

abbrev pub kept_code : Coded Kept
kept_code = code_by (ℕ × History) (coded× coded_ℕ history_code) (λ k. (k.number, k.mine)) (λ p. record { number = p.0; mine = p.1 }) (λ _. refl)

abbrev pub opened_code : Coded Opened
opened_code = coded_option core.the_row.coded
