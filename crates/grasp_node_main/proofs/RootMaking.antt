-- Calls of the root, one after the other.
use Rattle.std.proofs.Common.{◌≡◌, refl, sym, ap, ◌∙◌, append_assoc, [], ◌∷◌, ◌++◌, Some}
use Rattle.std.proofs.lemmas.List.{append-nil}
use Rattle.grasp_core.specs.declared.node_core.NodeCore.{NodeCore}
use Rattle.grasp_shared.specs.Calls.{Answered, entry}
use Rattle.grasp_shared.specs.Handles.{IsRootOf, root_view, out_of}
use Rattle.grasp_shared.specs.History.{History}
use Rattle.grasp_shared.specs.Passes.{Served, first}
use Rattle.grasp_shared.specs.declared.shared.Root.{Root}
use Rattle.grasp_shared.specs.declared.shared.Shared.{Shared}
use Rattle.grasp_shared.specs.declared.view.View.{View}
use Rattle.grasp_node_main.specs.Roots.{RootMade, IsFresh}

-- no call
pub made_nothing : (shared : Shared) (r : Root) → IsRootOf shared r → RootMade shared r [] r
made_nothing shared r own = record { own = own; mine = sym (append-nil (root_view r).mine); opened = refl; joined = refl; out = refl }

-- some calls, and then others
pub made_on : (shared : Shared) (a b c : Root) (h k : History) → RootMade shared a h b → RootMade shared b k c → RootMade shared a (h ++ k) c
made_on shared a b c h k p q = record {
  own = q.own;
  mine = q.mine ∙ ap (λ (l : History). l ++ k) p.mine ∙ append_assoc (root_view a).mine h k;
  opened = q.opened ∙ p.opened;
  joined = q.joined ∙ p.joined;
  out = q.out ∙ p.out;
}

-- one call
pub made_one : (shared : Shared) (a b : Root) (c : Answered) → IsRootOf shared b → out_of b ≡ out_of a → Served (root_view a) (root_view b) c → RootMade shared a (entry 0 c ∷ []) b
made_one shared a b c own out s = record {
  own = own;
  mine = ap (λ (v : View). v.mine) s.2 ∙ ap (λ n. (root_view a).mine ++ entry n c ∷ []) a.is_root.0;
  opened = ap (λ (v : View). v.opened) s.2;
  joined = ap (λ (v : View). v.joined) s.2;
  out = out;
}

-- the root of a new registry
pub fresh : (core : NodeCore) (r : Root) → root_view r ≡ first (Some core) → out_of r ≡ 0 → IsFresh r
fresh core r is out = record {
  mine = ap (λ (v : View). v.mine) is;
  made = ap (λ (v : View). v.made) is;
  joined = ap (λ (v : View). v.joined) is;
  out = out;
}
