-- Why a text is no configuration of a node that serves.
use Rattle.std.specs.Prelude.{◌≡◌, ℕ, List, Option, Some, None, Result, Ok, Err, codes}
use Rattle.grasp_config.specs.Faults.{key_word}
use Rattle.grasp_config.specs.declared.fault.ConfigFault.{ConfigFault}
use Rattle.grasp_config.specs.declared.fault.ConfigFault.TheVariants as node_fault
use Rattle.grasp_config.specs.declared.serve_fault.ServeKey.{ServeKey}
use Rattle.grasp_config.specs.declared.serve_fault.ServeKey.TheVariants.{Node, Floods, Serve, Control, Guests, Mode, Store, Forget, Locator, Allow, Streams, Silence, Retry, RetryMost, Every, Tick, Visitors, Log, Name, Unknown}
use Rattle.grasp_config.specs.declared.serve_fault.ServeFault.{ServeFault}
use Rattle.grasp_config.specs.declared.serve_fault.ServeFault.TheVariants.{BadServe, OutOfMemory}

-- the printed word of a key
abbrev pub serve_key_word : ServeKey → List ℕ
serve_key_word (Node key) = key_word key
serve_key_word Floods = codes "beacon"
serve_key_word Serve = codes "serve"
serve_key_word Control = codes "serve.control"
serve_key_word Guests = codes "serve.guests"
serve_key_word Mode = codes "serve.mode"
serve_key_word Store = codes "serve.store"
serve_key_word Forget = codes "serve.forget"
serve_key_word Locator = codes "serve.locator"
serve_key_word Allow = codes "serve.allow"
serve_key_word Streams = codes "serve.streams"
serve_key_word Silence = codes "serve.silence"
serve_key_word Retry = codes "serve.retry"
serve_key_word RetryMost = codes "serve.retry_most"
serve_key_word Every = codes "serve.every"
serve_key_word Tick = codes "serve.tick"
serve_key_word Visitors = codes "serve.visitors"
serve_key_word Log = codes "serve.log"
serve_key_word Name = codes "serve.name"
serve_key_word Unknown = codes "serve.unknown"

-- a configuration was refused, for a key of which P says so
abbrev pub IfBadServe : {A : Type 0} → Result A ServeFault → (ServeKey → Type 0) → Type 0
IfBadServe (Ok a) P = Unit {0}
IfBadServe (Err (BadServe key)) P = P key
IfBadServe (Err OutOfMemory) P = Unit {0}

-- Inside: what is read of a key was answered, or that it is bad, unless memory ran out
abbrev pub ServeKeyRead : {A : Type 0} → ServeKey → Option A → Result A ServeFault → Type 0
ServeKeyRead key found (Ok a) = found ≡ Some a
ServeKeyRead key found (Err (BadServe k)) = (k ≡ key) × (found ≡ None)
ServeKeyRead key found (Err OutOfMemory) = Unit {0}

-- Inside: the fault of a node that serves, where its own part isn't read
abbrev pub serve_fault_of : ConfigFault → ServeFault
serve_fault_of (node_fault.BadConfig key) = BadServe (Node key)
serve_fault_of node_fault.OutOfMemory = OutOfMemory
