use Rattle.std.proofs.Common.{rules, ℕ, List, [], ◌∷◌, ◌++◌, Option}
use Rattle.toml.specs.View.{table_view}
use Rattle.grasp_config.specs.Serve.{IsBadServeKey}
use Rattle.grasp_config.specs.ServeGroups.{door_keys, store_keys, stream_keys, pace_keys, shown_keys}
use Rattle.grasp_config.specs.declared.serve_fault.ServeKey.TheVariants.{Unknown}
use Rattle.grasp_config.specs.declared.serve_groups.Doors.{Doors}
use Rattle.grasp_config.specs.declared.serve_groups.Streams.{Streams}
use Rattle.grasp_config.specs.declared.serve_groups.Paces.{Paces}
use Rattle.grasp_config.specs.declared.serve_groups.Shown.{Shown}
use Rattle.grasp_config.proofs.ServeGood.{doors_good, doors_and_store, up_to_streams, up_to_paces, told_serve}
use Rattle.grasp_config.proofs.serve_groups.serve_table.Goals as goal

pub returns-in_err-doors-clause-first : goal.returns-in_err-doors-clause-first
returns-in_err-doors-clause-first c =
    told_serve Doors (IsBadServeKey c.args.listen.now (table_view c.args.table.now)) [] door_keys (store_keys ++ (stream_keys ++ (pace_keys ++ (shown_keys ++ Unknown ∷ [])))) c.in_err-doors.field-0.0
    c.from_residual.result (search rules) tt (c.in_err-doors.ensures.first c.args.listen.now)

pub returns-in_err-store-clause-first : goal.returns-in_err-store-clause-first
returns-in_err-store-clause-first c =
    told_serve (Option (List ℕ)) (IsBadServeKey c.args.listen.now (table_view c.args.table.now)) door_keys store_keys (stream_keys ++ (pace_keys ++ (shown_keys ++ Unknown ∷ []))) c.in_err-store.field-0.0
    c.from_residual-in_err-store.result (search rules) (doors_good c.args.listen.now (table_view c.args.table.now) c.in_ok-doors.doors c.in_ok-doors.ensures.found) (c.in_err-store.ensures.first c.args.listen.now)

pub returns-in_err-streams-clause-first : goal.returns-in_err-streams-clause-first
returns-in_err-streams-clause-first c =
    told_serve Streams (IsBadServeKey c.args.listen.now (table_view c.args.table.now)) (door_keys ++ store_keys) stream_keys (pace_keys ++ (shown_keys ++ Unknown ∷ [])) c.in_err-streams.field-0.0
    c.from_residual-in_err-streams.result (search rules)
    (doors_and_store c.args.listen.now (table_view c.args.table.now) c.in_ok-doors.doors c.in_ok-store.store c.in_ok-doors.ensures.found c.in_ok-store.ensures.found) c.in_err-streams.ensures.first

pub returns-in_err-paces-clause-first : goal.returns-in_err-paces-clause-first
returns-in_err-paces-clause-first c =
    told_serve Paces (IsBadServeKey c.args.listen.now (table_view c.args.table.now)) ((door_keys ++ store_keys) ++ stream_keys) pace_keys (shown_keys ++ Unknown ∷ []) c.in_err-paces.field-0.0
    c.from_residual-in_err-paces.result (search rules)
    (up_to_streams c.args.listen.now (table_view c.args.table.now) c.in_ok-doors.doors c.in_ok-store.store c.in_ok-streams.streams c.in_ok-doors.ensures.found c.in_ok-store.ensures.found c.in_ok-streams.ensures.found)
    (c.in_err-paces.ensures.first c.args.listen.now)

pub returns-in_err-shown-clause-first : goal.returns-in_err-shown-clause-first
returns-in_err-shown-clause-first c =
    told_serve Shown (IsBadServeKey c.args.listen.now (table_view c.args.table.now)) (((door_keys ++ store_keys) ++ stream_keys) ++ pace_keys) shown_keys (Unknown ∷ []) c.in_err-shown.field-0.0
    c.from_residual-in_err-shown.result (search rules)
    (up_to_paces c.args.listen.now (table_view c.args.table.now) c.in_ok-doors.doors c.in_ok-store.store c.in_ok-streams.streams c.in_ok-paces.paces c.in_ok-doors.ensures.found c.in_ok-store.ensures.found c.in_ok-streams.ensures.found c.in_ok-paces.ensures.found)
    (c.in_err-shown.ensures.first c.args.listen.now)
