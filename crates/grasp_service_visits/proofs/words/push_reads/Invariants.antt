use Rattle.std.specs.Prelude.{string_bytes}
use Rattle.grasp_service_visits.specs.Parts.{Shows}
use Rattle.grasp_service_visits.proofs.words.push_reads.Given as goal

-- some words were appended
abbrev pub invariant-loop-servant : goal.invariant-loop-servant
invariant-loop-servant l = Shows (string_bytes l.initial.out) (string_bytes l.out)
