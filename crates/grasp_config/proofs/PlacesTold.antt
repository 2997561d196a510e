-- Bad places whose first one is of a key.
use Rattle.std.proofs.Common.{ℕ, List, [], ◌∷◌, Result, Ok, Err, IfOk, sym, subst}
use Rattle.grasp_cbor.specs.declared.memory.OutOfMemory.{OutOfMemory}
use Rattle.grasp_config.specs.Config.{IsBadText}
use Rattle.grasp_config.specs.Places.{TellsServe, TellsNode, IsLedBy}
use Rattle.grasp_config.specs.Serve.{IsBadServe}
use Rattle.grasp_config.specs.declared.fault.ConfigKey.{ConfigKey}
use Rattle.grasp_config.specs.declared.place.BadPlace.{BadPlace}
use Rattle.grasp_config.specs.declared.serve_fault.ServeKey.{ServeKey}
use Rattle.grasp_config.specs.declared.serve_fault.ServeKey.TheVariants.{Node}

tells_serve : (text : List ℕ) (key : ServeKey) (told : List BadPlace) → IsLedBy key told → IsBadServe text key → TellsServe text told
tells_serve text key [] led bad = absurd led
tells_serve text key (first ∷ others) led bad = subst (IsBadServe text) (sym led) bad

tells_node : (text : List ℕ) (key : ConfigKey) (told : List BadPlace) → IsLedBy (Node key) told → IsBadText text key → TellsNode text told
tells_node text key [] led bad = absurd led
tells_node text key (first ∷ others) led bad = (key, led, bad)

-- what leads the places is a bad key of the text
pub led_tells_serve : (text : List ℕ) (key : ServeKey) (result : Result (List BadPlace) OutOfMemory) → IfOk result (λ told. IsLedBy key told) → IsBadServe text key → IfOk result (λ places. TellsServe text places)
led_tells_serve text key (Ok told) led bad = tells_serve text key told led bad
led_tells_serve text key (Err fault) led bad = tt

pub led_tells_node : (text : List ℕ) (key : ConfigKey) (result : Result (List BadPlace) OutOfMemory) → IfOk result (λ told. IsLedBy (Node key) told) → IsBadText text key → IfOk result (λ places. TellsNode text places)
led_tells_node text key (Ok told) led bad = tells_node text key told led bad
led_tells_node text key (Err fault) led bad = tt
