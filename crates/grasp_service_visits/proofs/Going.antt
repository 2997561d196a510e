-- How the history of a node goes on.
use Rattle.std.proofs.Common.{◌≡◌, ℕ, ◌+◌, List, [], ◌∷◌, sym, subst, Option, Some, None}
use Rattle.grasp_core.specs.declared.node_core.NodeCore.{NodeCore}
use Rattle.grasp_crew.specs.Seats.{SeatState, without_await, leaving}
use Rattle.grasp_desk.specs.declared.desk.Visiting.{Visiting}
use Rattle.grasp_desk.specs.declared.desk.Visiting.TheVariants.{Came, Line, Left, Nothing, OutOfMemory}
use Rattle.grasp_shared.proofs.Adding.{adds_nothing}
use Rattle.grasp_shared.specs.Adding.{Adds}
use Rattle.grasp_shared.specs.Calls.{Answered, GoesOn, entry}
use Rattle.grasp_shared.specs.History.{History}
use Rattle.grasp_types.specs.declared.call.Call.{Call}
use Rattle.grasp_types.specs.declared.reply.Reply.{Reply}
use Rattle.grasp_service_visits.specs.Calling.{GoesSome, call_made, goodbye_call}
use Rattle.grasp_service_visits.specs.Visits.{Said, said_call, heard_calls, left_calls, visit_calls, seat_of}
use Rattle.grasp_service_visits.specs.Parts.{GoesBy, HeardGoes, LeftGoes, VisitGoes}

-- ---- by whatever calls

pub some_none : (a : NodeCore) → GoesSome a a
some_none a = record { calls = []; adds = adds_nothing a }

pub some_same : (a b : NodeCore) → b ≡ a → GoesSome a b
some_same a b p = subst (λ x. GoesSome a x) (sym p) (some_none a)

pub some_step : (a b : NodeCore) (c : Answered) → GoesOn a c b → GoesSome a b
some_step a b c p = record { calls = entry 0 c ∷ []; adds = p.goes 0 }

pub some_adds : (a b : NodeCore) (h : History) → Adds a h b → GoesSome a b
some_adds a b h p = record { calls = h; adds = p }

pub by_some : (a b : NodeCore) (s : SeatState) (now : ℕ) (q : Option Call) (r : Reply) → GoesBy a s now q r b → GoesSome a b
by_some a b s now None r p = some_same a b p
by_some a b s now (Some c) r p = some_step a b _ p.0

-- ---- by the calls of visitors

pub by_adds : (a b : NodeCore) (s : SeatState) (now : ℕ) (q : Option Call) (r : Reply) (caller : ℕ) → GoesBy a s now q r b
    → Adds a (call_made caller now s q r) b
by_adds a b s now None r caller p = subst (λ x. Adds a [] x) (sym p) (adds_nothing a)
by_adds a b s now (Some c) r caller p = p.0.goes caller

pub heard_adds : (a b : NodeCore) (now : ℕ) (q : Option SeatState) (said : Said) (caller : ℕ) → HeardGoes a now q said b
    → Adds a (heard_calls caller now q said) b
heard_adds a b now None said caller p = subst (λ x. Adds a [] x) (sym p) (adds_nothing a)
heard_adds a b now (Some s) said caller p = by_adds a b (without_await s) now (said_call (without_await s) said.meaning) said.reply caller p

left_adds : (a b : NodeCore) (now : ℕ) (q : Option SeatState) (r : Reply) (caller : ℕ) → LeftGoes a now q r b → Adds a (left_calls caller now q r) b
left_adds a b now None r caller p = subst (λ x. Adds a [] x) (sym p) (adds_nothing a)
left_adds a b now (Some s) r caller p = by_adds a b (leaving s) now (goodbye_call (leaving s)) r caller p

pub visit_adds : (a b : NodeCore) (now : ℕ) (seats : List SeatState) (v : Visiting) (said : Said) (agents : ℕ) → VisitGoes a now seats v said b
    → Adds a (visit_calls agents now seats v said) b
visit_adds a b now seats (Came visitor guest) said agents p = subst (λ x. Adds a [] x) (sym p) (adds_nothing a)
visit_adds a b now seats (Line visitor line) said agents p = heard_adds a b now (seat_of visitor seats) said (agents + visitor) p
visit_adds a b now seats (Left visitor) said agents p = left_adds a b now (seat_of visitor seats) said.reply (agents + visitor) p
visit_adds a b now seats Nothing said agents p = subst (λ x. Adds a [] x) (sym p) (adds_nothing a)
visit_adds a b now seats OutOfMemory said agents p = subst (λ x. Adds a [] x) (sym p) (adds_nothing a)

-- or by whatever calls
pub visit_some : (a b : NodeCore) (now : ℕ) (seats : List SeatState) (v : Visiting) (said : Said) → VisitGoes a now seats v said b → GoesSome a b
visit_some a b now seats v said p = some_adds a b (visit_calls 0 now seats v said) (visit_adds a b now seats v said 0 p)
