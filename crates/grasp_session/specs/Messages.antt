-- The two sides of a session, and what a message is in it (RFC 8990, sections 2.5.5 and 2.5.6).
use Rattle.std.specs.Prelude.{Bool, true, false, [], None}
use Rattle.grasp_types.specs.declared.objective.Objective.{Objective}
use Rattle.grasp_types.specs.declared.message.Verdict.TheVariants.{Accept}
use Rattle.grasp_types.specs.declared.message.Message.{Message}
use Rattle.grasp_types.specs.declared.message.Message.TheVariants.{ReqNeg, ReqSyn, Negotiate, End, Synch, Invalid}

-- the requester is near, the listener is far
pub data Side : Type 0 where
  Near : Side
  Far : Side

abbrev pub other : Side → Side
other Near = Far
other Far = Near

abbrev pub is_side : Side → Side → Bool
is_side Near Near = true
is_side Near Far = false
is_side Far Near = false
is_side Far Far = true

-- what is offered where nothing was
abbrev pub no_objective : Objective
no_objective = record { name = []; flags = 0; loops = 0; value = None }

-- an M_INVALID (RFC 8990, section 2.8.12)
abbrev pub is_invalid : Message → Bool
is_invalid (Invalid n d) = true
is_invalid _ = false

-- an M_END (RFC 8990, section 2.8.8)
abbrev pub is_end : Message → Bool
is_end (End n v) = true
is_end _ = false

-- an M_END that accepts
abbrev pub is_acceptance : Message → Bool
is_acceptance (End n Accept) = true
is_acceptance _ = false

-- a request or a step
abbrev pub is_offer : Message → Bool
is_offer (ReqNeg n o) = true
is_offer (ReqSyn n o) = true
is_offer (Negotiate n o) = true
is_offer _ = false

-- after an M_END, an M_SYNCH or an M_INVALID nothing is kept and nothing sent
abbrev pub is_last : Message → Bool
is_last (End n v) = true
is_last (Synch n o) = true
is_last (Invalid n d) = true
is_last _ = false
