-- What the answers of a node's links say.
use Rattle.std.specs.Prelude.{◌≡◌, ℕ, ◌+◌, ◌*◌, ◌^◌, ◌<◌, List, Option, ⊤}
use Rattle.grasp_io.specs.Faults.{Rose}
use Rattle.grasp_io.specs.Told.{Stays, Grows, MayGrow}
use Rattle.grasp_types.specs.declared.traffic.Input.{Input}
use Rattle.grasp_types.specs.declared.traffic.Input.TheVariants.{Api, Datagram, Opened, Bytes, Closed, Drain}
use Rattle.grasp_types.specs.declared.traffic.Output.{Output}
use Rattle.grasp_types.specs.declared.traffic.Output.TheVariants as out
use Rattle.grasp_io.specs.declared.links.Asked.{Asked}
use Rattle.grasp_io.specs.declared.links.Asked.TheVariants.{Got, Nothing, OutOfMemory}
use Rattle.grasp_io.specs.declared.links.Sent.{Sent}
use Rattle.grasp_io.specs.declared.links.Sent.TheVariants as sent

-- links give no call and no drain, and a stream that a peer opened has the next odd number, which no earlier one had
abbrev pub IsNext : ℕ → ℕ → Asked → Type 0
IsNext old new (Got (Api asa call)) = ⊥
IsNext old new (Got (Datagram link from bytes)) = new ≡ old
IsNext old new (Got (Opened stream from)) = (stream ≡ 2 * old + 1) × (new ≡ old + 1)
IsNext old new (Got (Bytes stream bytes)) = new ≡ old
IsNext old new (Got (Closed stream)) = new ≡ old
IsNext old new (Got (Drain max)) = ⊥
IsNext old new Nothing = new ≡ old
IsNext old new OutOfMemory = new ≡ old

-- the inputs given grow by the one that was got
abbrev pub Gives : Option (List Input) → Option (List Input) → Asked → Type 0
Gives old new (Got input) = Grows old new input
Gives old new Nothing = Stays old new
Gives old new OutOfMemory = Stays old new

-- the waits grow by this one, and may stay for want of memory
abbrev pub Waits : Option (List ℕ) → Option (List ℕ) → Asked → ℕ → Type 0
Waits old new (Got input) wait = Grows old new wait
Waits old new Nothing wait = Grows old new wait
Waits old new OutOfMemory wait = MayGrow old new wait

-- a datagram alone is lost, an output for a stream alone fails, and at both the count rose
abbrev pub IsAnswer : Output → Sent → ℕ → ℕ → Type 0
IsAnswer output sent.Sent old new = ⊤
IsAnswer (out.Datagram link to bytes) sent.Lost old new = Rose old new
IsAnswer (out.Dial stream to) sent.Lost old new = ⊥
IsAnswer (out.Send stream bytes) sent.Lost old new = ⊥
IsAnswer (out.Close stream) sent.Lost old new = ⊥
IsAnswer (out.Datagram link to bytes) sent.Failed old new = ⊥
IsAnswer (out.Dial stream to) sent.Failed old new = Rose old new
IsAnswer (out.Send stream bytes) sent.Failed old new = Rose old new
IsAnswer (out.Close stream) sent.Failed old new = Rose old new

-- the outputs handed over grow by this one, and may stay where it wasn't sent
abbrev pub Hands : Option (List Output) → Option (List Output) → Sent → Output → Type 0
Hands old new sent.Sent output = Grows old new output
Hands old new sent.Lost output = MayGrow old new output
Hands old new sent.Failed output = MayGrow old new output

-- Inside: it may be given after so many openings: an opened stream has the next odd number, and there is room for one more
abbrev pub MayCome : ℕ → Asked → Type 0
MayCome opened (Got (Api asa call)) = ⊥
MayCome opened (Got (Datagram link from bytes)) = ⊤
MayCome opened (Got (Opened stream from)) = (stream ≡ 2 * opened + 1) × (opened < 2 ^ 62)
MayCome opened (Got (Bytes stream bytes)) = ⊤
MayCome opened (Got (Closed stream)) = ⊤
MayCome opened (Got (Drain max)) = ⊥
MayCome opened Nothing = ⊤
MayCome opened OutOfMemory = ⊤

-- Inside: it gives a datagram, bytes, a closing or nothing
abbrev pub GivesNoOpening : Asked → Type 0
GivesNoOpening (Got (Api asa call)) = ⊥
GivesNoOpening (Got (Datagram link from bytes)) = ⊤
GivesNoOpening (Got (Opened stream from)) = ⊥
GivesNoOpening (Got (Bytes stream bytes)) = ⊤
GivesNoOpening (Got (Closed stream)) = ⊤
GivesNoOpening (Got (Drain max)) = ⊥
GivesNoOpening Nothing = ⊤
GivesNoOpening OutOfMemory = ⊤
