use Rattle.std.specs.Prelude.{string_bytes}
use Rattle.grasp_service_visits.specs.Parts.{Shows}
use Rattle.grasp_service_visits.proofs.words.push_counters.Given as goal

-- some words were appended
abbrev pub invariant-loop-name : goal.invariant-loop-name
invariant-loop-name l = Shows (string_bytes l.initial.out) (string_bytes l.out)
