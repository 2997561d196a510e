-- Inside: the places of the sessions over the keys of a slab.
use Rattle.std.specs.Prelude.{◌≡◌, ℕ, ◌≤◌, List, map, length, Option, Some, None, is_some, IsSome, count_by, slice_index_or}
use Rattle.slab.specs.Slab.{Slab, get, slab_len}
use Rattle.grasp_session.specs.declared.session.Session.{Session}

-- what lies under a key, if there is one
abbrev pub at_key : Slab Session → Option ℕ → Option Session
at_key slab None = None
at_key slab (Some key) = get slab key

-- the sessions at the places with these keys
abbrev pub held : Slab Session → List (Option ℕ) → List (Option Session)
held slab keys = map (at_key slab) keys

-- 64 places with different keys, each of which has a session, and room for all
pub record AreSound (slab : Slab Session) (keys : List (Option ℕ)) : Type 0 where
  pub long : length keys ≡ 64
  pub filled : (place key : ℕ) → slice_index_or keys place None ≡ Some key → IsSome (get slab key)
  pub apart : (p q key : ℕ) → slice_index_or keys p None ≡ Some key → slice_index_or keys q None ≡ Some key → p ≡ q
  pub counted : slab_len slab ≡ count_by is_some keys
  pub room : 64 ≤ slab.capacity
