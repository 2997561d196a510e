-- The tables of a configuration, and the keys that each has.
use Rattle.std.specs.Prelude.{ℕ, List, [], ◌∷◌, codes}
use Rattle.grasp_config.specs.declared.table.Part.{Part}
use Rattle.grasp_config.specs.declared.table.Part.TheVariants.{Top, Link, Neighbour, Want, Beacon, Reader, Serve}

abbrev pub keys_of : Part → List (List ℕ)
keys_of Top = codes "address" ∷ codes "listen" ∷ codes "turns" ∷ codes "wait" ∷ codes "size" ∷ codes "roots" ∷ codes "link" ∷ codes "want" ∷ codes "beacon" ∷ codes "reader" ∷ []
keys_of Link = codes "neighbour" ∷ []
keys_of Neighbour = codes "address" ∷ codes "at" ∷ []
keys_of Want = codes "length" ∷ codes "longest" ∷ codes "peer" ∷ []
keys_of Beacon = codes "name" ∷ codes "value" ∷ codes "ttl" ∷ codes "loops" ∷ []
keys_of Reader = codes "name" ∷ []
keys_of Serve = codes "control" ∷ codes "guests" ∷ codes "mode" ∷ codes "store" ∷ codes "forget" ∷ codes "locator" ∷ codes "allow" ∷ codes "streams" ∷ codes "silence" ∷ codes "retry" ∷ codes "retry_most" ∷ codes "every" ∷ codes "tick" ∷ codes "visitors" ∷ codes "log" ∷ codes "name" ∷ []
