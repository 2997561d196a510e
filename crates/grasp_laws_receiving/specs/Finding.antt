-- Which session a handle names.
use Rattle.std.specs.Prelude.{◌≡◌, ◌↔◌, Some}
use Rattle.grasp_session.specs.Says.{IsAt}
use Rattle.grasp_session.specs.Sessions.{SessionState, Sessions, session_at}
use Rattle.grasp_types.specs.declared.session.Handle.{Handle}

-- the live session at the handle's place, where it has the handle's number, and no other
abbrev pub SessionsAreFound : Type 0
SessionsAreFound = (z : Sessions) (h : Handle) (x : SessionState) → session_at z h ≡ Some x ↔ (IsAt z h.place x × (x.number ≡ h.number))
