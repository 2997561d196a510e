-- What clauses say of a registry's passes.
use Rattle.std.specs.Prelude.{◌≡◌, ℕ}
use Rattle.grasp_shared.specs.declared.shared.Shared.{Shared}
use Rattle.grasp_shared.specs.declared.shared.Pass.{Pass}
use Rattle.grasp_shared.specs.declared.shared.Root.{Root}
use Rattle.grasp_shared.specs.declared.view.View.{View}

-- this registry made the pass
abbrev pub IsPassOf : Shared → Pass → Type 0
IsPassOf s p = p.seat.table_id ≡ s.table.shared.table_id

-- this registry made the root
abbrev pub IsRootOf : Shared → Root → Type 0
IsRootOf s r = r.seat.table_id ≡ s.table.shared.table_id

-- what the pass knows
abbrev pub view_of : Pass → View
view_of p = p.seat.me.0

-- what the root knows
abbrev pub root_view : Root → View
root_view r = r.seat.me.0

-- how many passes were split from it and not joined
abbrev pub out_of : Root → ℕ
out_of r = r.out
