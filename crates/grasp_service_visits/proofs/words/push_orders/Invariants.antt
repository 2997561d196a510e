use Rattle.std.specs.Prelude.{string_bytes}
use Rattle.grasp_service_visits.specs.Parts.{Shows}
use Rattle.grasp_service_visits.proofs.words.push_orders.Given as goal

-- some words were appended
abbrev pub invariant-loop-place : goal.invariant-loop-place
invariant-loop-place l = Shows (string_bytes l.initial.out) (string_bytes l.out)
