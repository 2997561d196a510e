-- What a reader keeps changes neither its next call nor its number.
use Rattle.std.proofs.Common.{◌≡◌, Bool, true, false, List, Option, Some, None, refl}
use Rattle.grasp_types.specs.declared.flood.FloodRead.{FloodRead}
use Rattle.grasp_agent.specs.Announcing.{ReaderState, ReadersAgree, reader_call, keeping, reads_in, after_reader, after_keep}
use Rattle.grasp_agent.specs.Replies.{answer_in}

kept_call : (s : ReaderState) (o : Option (List FloodRead)) → (reader_call (keeping s o) ≡ reader_call s) × ((keeping s o).asa ≡ s.asa)
unfolding reader_call
kept_call s None = (refl, refl)
kept_call s (Some reads) = (refl, refl)

pub readers_agree : ReadersAgree
unfolding after_reader after_keep
readers_agree s r = by s s.registered
  where
    by : (x : ReaderState) (b : Bool) → (reader_call (after_keep (record x { registered = b }) r) ≡ reader_call (after_reader (record x { registered = b }) r))
        × ((after_keep (record x { registered = b }) r).asa ≡ (after_reader (record x { registered = b }) r).asa)
    by x true = kept_call (record x { registered = true }) (reads_in (answer_in r))
    by x false = (refl, refl)
