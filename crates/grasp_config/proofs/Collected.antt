-- Reading the values of a list, one after another.
use Rattle.std.proofs.Common.{◌≡◌, ℕ, ◌+◌, ◌<◌, ◌≤◌, List, [], ◌∷◌, ◌++◌, length, get_or, drop, Option, Some, None, refl, sym, ap, ◌∙◌, append_assoc, append-nil}
use Rattle.std.proofs.lemmas.List.{drop_all}
use Rattle.toml.specs.Data.{Data}
use Rattle.toml.specs.View.{view, items_view}
use Rattle.toml.specs.declared.value.Value.{Value}
use Rattle.toml.proofs.Views.{items_view-drop}
use Rattle.grasp_config.specs.Table.{each, onto, ◌>>=◌}

-- what was found, with the others behind it; or none where the others are none
abbrev pub behind : {A : Type 0} → List A → Option (List A) → Option (List A)
behind found None = None
behind found (Some others) = Some (found ++ others)

-- what was found of the values before this place stands before what is read of the others
abbrev pub ReadUpTo : {A : Type 0} → (Data → Option A) → List Value → ℕ → List A → Type 0
ReadUpTo read values i found = each read (items_view values) ≡ behind found (each read (items_view (drop i values)))

behind_none : {A : Type 0} (others : Option (List A)) → others ≡ behind [] others
behind_none None = refl
behind_none (Some others) = refl

behind_one : {A : Type 0} (found : List A) (a : A) (others : Option (List A)) → behind found (onto a others) ≡ behind (found ++ a ∷ []) others
behind_one found a None = refl
behind_one found a (Some others) = ap Some (sym (append_assoc found (a ∷ []) others))

pub read_none : {A : Type 0} (read : Data → Option A) (values : List Value) (new : List A) → new ≡ [] → ReadUpTo read values 0 new
read_none {A = A} read values new none = behind_none (each read (items_view values)) ∙ ap (λ (list : List A). behind list (each read (items_view values))) (sym none)

each_at : {A : Type 0} (read : Data → Option A) (values : List Value) (i : ℕ) (d : Value) → i < length values
    → each read (items_view (drop i values)) ≡ (read (view (get_or values i d)) >>= λ first. onto first (each read (items_view (drop (i + 1) values))))
unfolding each
each_at read values i d within = ap (each read) (items_view-drop values i d within)

pub read_next : {A : Type 0} (read : Data → Option A) (values : List Value) (i : ℕ) (found new : List A) (d : Value) (a : A) → i < length values
    → ReadUpTo read values i found → read (view (get_or values i d)) ≡ Some a → new ≡ found ++ a ∷ [] → ReadUpTo read values (i + 1) new
read_next {A = A} read values i found new d a within before one more =
    before ∙ ap (behind found) (each_at read values i d within ∙ ap (λ (o : Option A). o >>= λ first. onto first (each read (items_view (drop (i + 1) values)))) one)
    ∙ behind_one found a (each read (items_view (drop (i + 1) values)))
    ∙ ap (λ (list : List A). behind list (each read (items_view (drop (i + 1) values)))) (sym more)

pub read_bad : {A : Type 0} (read : Data → Option A) (values : List Value) (i : ℕ) (found : List A) (d : Value) → i < length values
    → ReadUpTo read values i found → read (view (get_or values i d)) ≡ None → each read (items_view values) ≡ None
read_bad {A = A} read values i found d within before none =
    before ∙ ap (behind found) (each_at read values i d within ∙ ap (λ (o : Option A). o >>= λ first. onto first (each read (items_view (drop (i + 1) values)))) none)

pub read_all : {A : Type 0} (read : Data → Option A) (values : List Value) (i : ℕ) (found : List A) → length values ≤ i
    → ReadUpTo read values i found → each read (items_view values) ≡ Some found
unfolding each
read_all read values i found over before =
    before ∙ ap (λ (vs : List Value). behind found (each read (items_view vs))) (drop_all i values over) ∙ ap Some (append-nil found)
