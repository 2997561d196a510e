-- What the root's calls make of it.
use Rattle.std.specs.Prelude.{◌≡◌, [], ◌++◌}
use Rattle.grasp_shared.specs.Handles.{IsRootOf, root_view, out_of}
use Rattle.grasp_shared.specs.History.{History}
use Rattle.grasp_shared.specs.declared.shared.Root.{Root}
use Rattle.grasp_shared.specs.declared.shared.Shared.{Shared}

-- the root of this registry made these calls, one after the other, and no more
pub record RootMade (shared : Shared) (old : Root) (calls : History) (new : Root) : Type 0 where
  pub own : IsRootOf shared new
  pub mine : (root_view new).mine ≡ (root_view old).mine ++ calls
  pub opened : (root_view new).opened ≡ (root_view old).opened
  pub joined : (root_view new).joined ≡ (root_view old).joined
  pub out : out_of new ≡ out_of old

-- Inside: a root that has made no call, and from which no pass was split
pub record IsFresh (r : Root) : Type 0 where
  pub mine : (root_view r).mine ≡ []
  pub made : (root_view r).made ≡ 1
  pub joined : (root_view r).joined ≡ []
  pub out : out_of r ≡ 0
