-- The members of a table without a key, and with one more.
use Rattle.std.proofs.Common.{◌≡◌, ℕ, Bool, true, false, cond, List, [], ◌∷◌, String, Global, Ordering, Less, Equal, Greater, string_bytes, nat_cmp, is_eq, refl, ap, ◌∙◌}
use Rattle.std.specs.BTreeMap.{is_at, insert_entry}
use Rattle.std.specs.Cmp.Lexicographic.{slice_cmp}
use Rattle.std.specs.Map.{remove_entry}
use Rattle.std.specs.Ordering.{match_ordering}
use Rattle.std.specs.String.{string_cmp}
use Rattle.toml.specs.Data.{Data, Members, member}
use Rattle.toml.specs.View.{view, members_view}
use Rattle.toml.specs.declared.value.Value.{Value}
use Rattle.toml.proofs.Views.{Entry}
use Rattle.grasp_config.specs.NodePart.{without, with_member}

kept_or_not : (found : Bool) (e : Entry) (es rest : List Entry) (others : Members) → members_view rest ≡ others
    → members_view (cond found es (e ∷ rest)) ≡ cond found (members_view es) (member (string_bytes e.0) (view e.1) others)
kept_or_not true e es rest others is = refl
kept_or_not false e es rest others is = ap (member (string_bytes e.0) (view e.1)) is

-- what is left where an entry is taken out
pub view_without : (key : List ℕ) (es : List Entry) → members_view (remove_entry (is_at (λ k. slice_cmp nat_cmp key (string_bytes k))) es) ≡ without key (members_view es)
view_without key [] = refl
view_without key (e ∷ es) = kept_or_not (is_eq (slice_cmp nat_cmp key (string_bytes e.0))) e es _ _ (view_without key es)

view_by_order : (o : Ordering) (a b c : List Entry) → members_view (match_ordering o a b c) ≡ match_ordering o (members_view a) (members_view b) (members_view c)
view_by_order Less a b c = refl
view_by_order Equal a b c = refl
view_by_order Greater a b c = refl

-- what stands there where an entry is put in
pub view_with : (es : List Entry) (k : String Global) (v : Value) → members_view (insert_entry string_cmp es k v) ≡ with_member (string_bytes k) (view v) (members_view es)
view_with [] k v = refl
view_with (e ∷ es) k v = view_by_order (string_cmp k e.0) _ _ _ ∙ rw (view_with es k v)

pub view_with_named : (es : List Entry) (k : String Global) (v : Value) (name : List ℕ) (d : Data) → string_bytes k ≡ name → view v ≡ d
    → members_view (insert_entry string_cmp es k v) ≡ with_member name d (members_view es)
view_with_named es k v name d named seen = view_with es k v ∙ (λ i. with_member (named i) (seen i) (members_view es))
