-- All sessions that are due time out, one after the other, in rising order of their numbers.
use Rattle.std.specs.Prelude.{◌≡◌, ℕ, zero, suc, ◌+◌, ◌≤◌, List, [], ◌++◌, None, length}
use Rattle.std.specs.List.{cons_option}
use Rattle.grasp_session.specs.Sessions.{Sessions, expire_reply, after_expire}

-- the sessions after `expire_one` was called so many times
abbrev pub expired : ℕ → Sessions → ℕ → Sessions
expired zero z now = z
expired (suc k) z now = expired k (after_expire z now) now

-- the streams that it answered, in order
abbrev pub streams_expired : ℕ → Sessions → ℕ → List ℕ
streams_expired zero z now = []
streams_expired (suc k) z now = cons_option (expire_reply z now) (streams_expired k (after_expire z now) now)

-- after all that are due: there are no more of them than places
abbrev pub expired_all : Sessions → ℕ → Sessions
expired_all z now = expired (length z.places) z now

abbrev pub expired_streams : Sessions → ℕ → List ℕ
expired_streams z now = streams_expired (length z.places) z now

-- after all sessions that are due have timed out, none is due
abbrev pub ExpiryEnds : Type 0
ExpiryEnds = (z : Sessions) (now : ℕ) → expire_reply (expired_all z now) now ≡ None

-- one call more
pub record OneMore (z : Sessions) (now k : ℕ) : Type 0 where
  pub sessions : expired (k + 1) z now ≡ after_expire (expired k z now) now
  pub streams : streams_expired (k + 1) z now ≡ streams_expired k z now ++ cons_option (expire_reply (expired k z now) now) []

abbrev pub ExpiryGoesOn : Type 0
ExpiryGoesOn = (z : Sessions) (now k : ℕ) → OneMore z now k

-- the first answer `None` comes after all
pub record ThatWasAll (z : Sessions) (now k : ℕ) : Type 0 where
  pub sessions : expired_all z now ≡ expired k z now
  pub streams : expired_streams z now ≡ streams_expired k z now

abbrev pub ExpiryStops : Type 0
ExpiryStops = (z : Sessions) (now k : ℕ) → k ≤ length z.places → expire_reply (expired k z now) now ≡ None → ThatWasAll z now k
