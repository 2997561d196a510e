-- Inside: who asked for a prefix, as the code finds it.
use Rattle.std.specs.Prelude.{ℕ, ◌+◌, ◌%◌, ◌/◌, ◌==◌, if◌then◌else◌, List, Option, None, Some}
use Rattle.grasp_model_network.specs.Setting.{numbered}
use Rattle.grasp_simulator.specs.declared.notes.OfferNote.{OfferNote}
use Rattle.grasp_simulator.specs.declared.stream.LifeEnd.{LifeEnd}
use Rattle.grasp_simulator.specs.declared.stream.Stream.{Stream}

-- Inside: the near end of a stream
abbrev pub near_of : Option Stream → Option LifeEnd
near_of None = None
near_of (Some code) = Some (record { life = code.near; number = code.number })

-- Inside: that of the stream which has this number where it arrived
abbrev pub asker_at : List Stream → Option ℕ → Option LifeEnd
asker_at streams None = None
asker_at streams (Some number) = if number % 2 == 0 then None else near_of (numbered streams (number / 2 + 1))

-- Inside: that of the stream of the note
abbrev pub asker_of : List Stream → Option OfferNote → Option LifeEnd
asker_of streams None = None
asker_of streams (Some note) = asker_at streams note.stream
