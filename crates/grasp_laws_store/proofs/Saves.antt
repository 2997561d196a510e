-- What a save of an image does on a disk.
use Rattle.grasp_store.proofs.Saves.{save_fits, save_moments, save_succeeds, saved_then}
use Rattle.grasp_laws_store.specs.Saves.{SavesDo}

pub saves_do : SavesDo
saves_do s image settled sound good below =
    let saved = saved_then s settled sound image good below
    in record {
      fits = save_fits s settled sound image good below;
      succeed = save_succeeds s.bytes image;
      moments = save_moments s settled sound image good below;
      settled = saved.settled_then;
      sound = saved.sound_then;
      current = saved.saved_is;
    }
