use Rattle.std.proofs.Common.{◌≡◌, take}
use Rattle.std.specs.List.{fold}
use Rattle.grasp_core.specs.Stands.{StreamsStand}
use Rattle.grasp_model_node.specs.Streams.{StreamsState, without}
use Rattle.grasp_core.proofs.streams.Streams.remove_all.Given as goal

-- the records of the numbers before this one are gone
abbrev pub invariant-loop-number : goal.invariant-loop-number
invariant-loop-number l = record {
  stands : (s : StreamsState) → StreamsStand l.fn.self s → StreamsStand l.self (fold without s (take l.number-index l.numbers));
  same_limit : l.self.limit ≡ l.fn.self.limit;
}
