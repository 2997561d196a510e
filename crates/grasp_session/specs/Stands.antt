-- What the code keeps of the sessions of a node.
use Rattle.std.specs.Prelude.{◌≡◌, ℕ, ◌-◌, ◌^◌, Bool, false, ◌&&◌, ◌||◌, List, Option, Some, None, is_some, is_none, IsSome, count_by, Result, Err, length, nat_lt, nat_le, ◌==◌, bytes_eq, slice_index_or, slice_set, if◌then◌else◌}
use Rattle.std.specs.List.{AllZip}
use Rattle.grasp_types.specs.declared.session.Handle.{Handle}
use Rattle.grasp_session.specs.declared.answer.Act.{Act}
use Rattle.grasp_session.specs.declared.answer.SessionRefused.{SessionRefused}
use Rattle.grasp_session.specs.declared.answer.SessionRefused.TheVariants.{NoSession}
use Rattle.grasp_session.specs.declared.session.Session.{Session}
use Rattle.grasp_session.specs.declared.table.Table.{Table}
use Rattle.grasp_session.specs.declared.wanted.Wanted.{Wanted}
use Rattle.grasp_session.specs.declared.wanted.Wanted.TheVariants.{OnStream, Due, Untaken, UntakenAbove, OwnedBy, Requested}
use Rattle.grasp_session.specs.Keeps.{Keeps, refusal_in, leaves_in}
use Rattle.grasp_session.specs.Sessions.{SessionState, Sessions, if_number, if_owner, older, oldest_from, if_refused}

-- the session with this handle, whose place is below 64
abbrev pub kept_at : List (Option Session) → Handle → Option Session
kept_at places h = if nat_lt h.place 64 then if_number (λ s. s.number) h.number (slice_index_or places h.place None) else None

-- the session of this owner with this handle
abbrev pub kept_owned : List (Option Session) → ℕ → Handle → Option Session
kept_owned places owner h = if_owner (λ s. s.owner) owner (kept_at places h)

abbrev pub answer_in : Act → Option Session → Result (Unit {0}) SessionRefused
answer_in act None = Err NoSession
answer_in act (Some s) = if_refused (refusal_in s act)

-- what `check` answers
abbrev pub check_answer : Table → ℕ → Handle → Act → Result (Unit {0}) SessionRefused
check_answer t owner h act = answer_in act (kept_owned t.places owner h)

abbrev pub fits_in : Wanted → Session → Bool
fits_in (OnStream stream) s = s.stream == stream
fits_in (Due now) s = is_none s.ending && nat_le s.deadline now
fits_in (Untaken name) s = (s.owner == 0) && bytes_eq s.request.name name.now
fits_in (UntakenAbove name number) s = nat_lt number s.number && (s.owner == 0) && bytes_eq s.request.name name.now
fits_in (OwnedBy owner) s = s.owner == owner
fits_in (Requested number) s = s.requester && (s.session == number)

-- Inside: the session at a place is one that is wanted
abbrev pub fits_at : Wanted → Option Session → Bool
fits_at wanted None = false
fits_at wanted (Some s) = fits_in wanted s

abbrev pub oldest_in : Wanted → List (Option Session) → Option Handle
oldest_in wanted places = oldest_from (λ x. x.number) (fits_in wanted) 0 places

abbrev pub state_at : List (Option Session) → Option Handle → Option (ℕ × Bool)
state_at places None = None
state_at places (Some h) = by_session (kept_at places h) where
  by_session : Option Session → Option (ℕ × Bool)
  by_session None = None
  by_session (Some s) = Some (s.session, is_some s.ending)

-- what `state` answers
abbrev pub state_answer : Table → ℕ → Option (ℕ × Bool)
state_answer t stream = state_at t.places (oldest_in (OnStream stream) t.places)

-- Inside: 64 sessions are live, or no number is left
abbrev pub full_in : Table → Bool
full_in t = nat_le 64 (count_by is_some t.places) || (t.made == 2 ^ 64 - 1)

-- Inside: the handle of this session or the best one so far: that of the lesser number that is wanted
abbrev pub older_in : Wanted → ℕ → Session → Option Handle → Option Handle
older_in wanted place s best = older (λ x. x.number) (fits_in wanted) place (Some s) best

-- Inside: the places after a session is back, unless it leaves
abbrev pub settled : List (Option Session) → ℕ → Session → List (Option Session)
settled places place s = if leaves_in s then places else slice_set places place (Some s)

-- a live session has this handle
abbrev pub IsLive : Table → Handle → Type 0
IsLive t h = IsSome (kept_at t.places h)

abbrev pub owner_in : Option Session → Option ℕ
owner_in None = None
owner_in (Some s) = Some s.owner

-- a live session that no agent has taken has this handle
abbrev pub IsUntaken : Table → Handle → Type 0
IsUntaken t h = owner_in (kept_at t.places h) ≡ Some 0

-- a place has what is kept of its session
abbrev pub StandsAt : Option Session → Option SessionState → Type 0
StandsAt None None = Unit {0}
StandsAt None (Some x) = ⊥
StandsAt (Some s) None = ⊥
StandsAt (Some s) (Some x) = Keeps s x

-- the table is what is kept of these sessions
pub record Stands (t : Table) (z : Sessions) : Type 0 where
  pub made : t.made ≡ z.made
  pub long : length t.places ≡ 64
  pub places : AllZip StandsAt t.places z.places
