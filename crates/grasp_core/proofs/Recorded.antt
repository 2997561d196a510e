-- One more record of a stream.
use Rattle.std.proofs.Common.{◌≡◌, ℕ, ◌+◌, ◌*◌, [], ◌∷◌, ◌++◌, None, refl, ap}
use Rattle.std.proofs.lemmas.Slice.Zip.{all_zipped_more}
use Rattle.grasp_core.specs.Stands.{StreamStands, StreamsStand}
use Rattle.grasp_model_node.specs.Streams.{StreamsState, with_dialled}
use Rattle.grasp_core.specs.declared.streams.Stream.{Stream}
use Rattle.grasp_core.specs.declared.streams.Streams.{Streams}

closing_record : ℕ → Stream
closing_record dialled = record { number = 2 * dialled; from = None; cutter = None }

-- the node dialled a stream, which is closing from the start
pub recorded : (old new : Streams) (s : StreamsState) → StreamsStand old s → new.limit ≡ old.limit → new.held.items ≡ old.held.items ++ (record { number = 2 * old.dialled; from = None; cutter = None } ∷ []) → new.dialled ≡ old.dialled + 1
    → StreamsStand new (with_dialled s None)
unfolding closing_record
recorded old new s h limit items dialled = record {
  held = rw (limit, items) (all_zipped_more (StreamStands old.limit) old.held.items s.records (closing_record old.dialled) (record { number = 2 * s.dialled; from = None; past = None }) h.held (record { number = ap (λ k. 2 * k) h.dialled; from = refl; cuts = tt }));
  dialled = rw (dialled, h.dialled) refl;
}
