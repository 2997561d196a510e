-- What follows the front of bytes.
use Rattle.std.proofs.Common.{◌≡◌, ℕ, ◌+◌, ◌<◌, List, [], ◌∷◌, ◌++◌, length, drop, Option, Some, None, Bool, true, false, cond, eqb, slice_get, IfSome, IfNone, option_map, Bor, refl, sym, ap, ◌∙◌, arith}
use Rattle.std.proofs.lemmas.Bool.{eqb-true, eqb-false}
use Rattle.std.proofs.lemmas.List.{drop_more, length-drop}
use Rattle.std.proofs.lemmas.Option.{slice_get_within, get_or_from_slice_get}
use Rattle.grasp_cbor.specs.Behind.{behind}
use Rattle.grasp_cbor.specs.DataItem.{DataItem, data_items, data_pairs}
use Rattle.grasp_cbor.specs.Shortest.{shortest, shortest_items, shortest_pairs}
use Rattle.grasp_cbor.proofs.Views.{views}
use Rattle.grasp_cbor.proofs.Places.{got_below, items_depth_got, pairs_depth_got}
use Rattle.grasp_cbor.proofs.Counts.{item_count-data_items, pair_count-data_pairs}

-- two fronts, one after the other
first_by : (same : Bool) (x y : Option (List ℕ)) (r : List ℕ) (z : Option (List ℕ)) → cond same x None ≡ Some r → (x ≡ Some r → y ≡ z) → cond same y None ≡ z
first_by true x y r z e f = f e
first_by false x y r z e f = absurd (cc)

pub behind_first : (a b s r : List ℕ) → behind a s ≡ Some r → behind (a ++ b) s ≡ behind b r
behind_first [] b s r e = let q : s ≡ r = cc in ap (behind b) q
behind_first (x ∷ a) b [] r e = absurd (cc)
behind_first (x ∷ a) b (y ∷ s) r e = first_by (eqb y x) (behind a s) (behind (a ++ b) s) r (behind b r) e (behind_first a b s r)

none_by : (same : Bool) (x y : Option (List ℕ)) → cond same x None ≡ None → (x ≡ None → y ≡ None) → cond same y None ≡ None
none_by true x y e f = f e
none_by false x y e f = refl

pub behind_none : (a b s : List ℕ) → behind a s ≡ None → behind (a ++ b) s ≡ None
behind_none [] b s e = absurd (cc)
behind_none (x ∷ a) b [] e = refl
behind_none (x ∷ a) b (y ∷ s) e = none_by (eqb y x) (behind a s) (behind (a ++ b) s) e (behind_none a b s)

none_if : (same : Bool) (x : Option (List ℕ)) → x ≡ None → cond same x None ≡ None
none_if true x e = e
none_if false x e = refl

-- fewer bytes don't begin with a front
pub behind_short : (a s : List ℕ) → length s < length a → behind a s ≡ None
behind_short [] s h = absurd (omega arith)
behind_short (x ∷ a) [] h = refl
behind_short (x ∷ a) (y ∷ s) h = let shorter = behind_short a s (omega (arith, h)) in none_if (eqb y x) (behind a s) shorter

-- what was found follows
some_by : (same : Bool) (x y : ℕ) (o : Option (List ℕ)) (r a s : List ℕ) → eqb y x ≡ same → cond same o None ≡ Some r → (o ≡ Some r → s ≡ a ++ r) → y ∷ s ≡ x ∷ (a ++ r)
some_by true x y o r a s q e f = let same : y ≡ x = eqb-true y x q in let rest = f e in cc
some_by false x y o r a s q e f = absurd (cc)

pub behind_found : (a s r : List ℕ) → behind a s ≡ Some r → s ≡ a ++ r
behind_found [] s r e = cc
behind_found (x ∷ a) [] r e = absurd (cc)
behind_found (x ∷ a) (y ∷ s) r e = some_by (eqb y x) x y (behind a s) r a s refl e (behind_found a s r)

same_if : (x : ℕ) (o : Option (List ℕ)) (same : Bool) → eqb x x ≡ same → cond same o None ≡ o
same_if x o true q = refl
same_if x o false q = absurd (eqb-false x x q refl)

-- what follows is found
pub behind_itself : (a r : List ℕ) → behind a (a ++ r) ≡ Some r
behind_itself [] r = refl
behind_itself (x ∷ a) r = same_if x (behind a (a ++ r)) (eqb x x) refl ∙ behind_itself a r

pub behind_not : (a s r : List ℕ) → behind a s ≡ None → ¬ (s ≡ a ++ r)
behind_not a s r e q = let found = behind_itself a r in let same : behind a s ≡ behind a (a ++ r) = ap (behind a) q in cc

-- the two answers
pub some_behind : (a s : List ℕ) (o : Option (Bor (List ℕ))) → option_map (λ r. r.now) o ≡ behind a s → IfSome o (λ r. s ≡ a ++ r.now)
some_behind a s None e = tt
some_behind a s (Some r) e = behind_found a s r.now (sym e)

pub none_behind : (a s : List ℕ) (o : Option (Bor (List ℕ))) → option_map (λ r. r.now) o ≡ behind a s → IfNone o ((r : List ℕ) → ¬ (s ≡ a ++ r))
none_behind a s None e = λ r. behind_not a s r (sym e)
none_behind a s (Some r) e = tt

pub none_is : (o : Option (Bor (List ℕ))) (whole : Option (List ℕ)) → o ≡ None → whole ≡ None → option_map (λ r. r.now) o ≡ whole
none_is None whole e f = sym f
none_is (Some r) whole e f = absurd (cc)

-- a place in a list
pub drop_got : {X : Type 0} (xs : List X) (i : ℕ) (x : X) → slice_get xs i ≡ Some x → drop i xs ≡ x ∷ drop (i + 1) xs
drop_got xs i x e = drop_more xs i x (slice_get_within xs i x e) ∙ ap (λ y. y ∷ drop (i + 1) xs) (get_or_from_slice_get xs i x x e)

-- the items from a place on
abbrev pub items_from : ℕ → List DataItem → List ℕ
items_from i ts = shortest_items (data_items (drop i ts))

abbrev pub pairs_from : ℕ → List (DataItem × DataItem) → List ℕ
pairs_from i es = shortest_pairs (data_pairs (drop i es))

pub items_step : (ts : List DataItem) (i : ℕ) (t : DataItem) (whole : Option (List ℕ)) (s r : List ℕ) → slice_get ts i ≡ Some t → whole ≡ behind (items_from i ts) s → behind (shortest t) s ≡ Some r
    → whole ≡ behind (items_from (i + 1) ts) r
items_step ts i t whole s r got e f =
    e ∙ ap (λ us. behind (shortest_items (data_items us)) s) (drop_got ts i t got) ∙ behind_first (shortest t) (items_from (i + 1) ts) s r f

pub items_stop : (ts : List DataItem) (i : ℕ) (t : DataItem) (whole : Option (List ℕ)) (s : List ℕ) → slice_get ts i ≡ Some t → whole ≡ behind (items_from i ts) s → behind (shortest t) s ≡ None → whole ≡ None
items_stop ts i t whole s got e f =
    e ∙ ap (λ us. behind (shortest_items (data_items us)) s) (drop_got ts i t got) ∙ behind_none (shortest t) (items_from (i + 1) ts) s f

pub pairs_step : (es : List (DataItem × DataItem)) (i : ℕ) (k v : DataItem) (whole : Option (List ℕ)) (s m r : List ℕ) → slice_get es i ≡ Some (k, v) → whole ≡ behind (pairs_from i es) s → behind (shortest k) s ≡ Some m → behind (shortest v) m ≡ Some r
    → whole ≡ behind (pairs_from (i + 1) es) r
pairs_step es i k v whole s m r got e f g =
    e ∙ ap (λ us. behind (shortest_pairs (data_pairs us)) s) (drop_got es i (k, v) got)
    ∙ behind_first (shortest k ++ shortest v) (pairs_from (i + 1) es) s r (behind_first (shortest k) (shortest v) s m f ∙ g)

pub pairs_stop_key : (es : List (DataItem × DataItem)) (i : ℕ) (k v : DataItem) (whole : Option (List ℕ)) (s : List ℕ) → slice_get es i ≡ Some (k, v) → whole ≡ behind (pairs_from i es) s → behind (shortest k) s ≡ None → whole ≡ None
pairs_stop_key es i k v whole s got e f =
    e ∙ ap (λ us. behind (shortest_pairs (data_pairs us)) s) (drop_got es i (k, v) got)
    ∙ behind_none (shortest k ++ shortest v) (pairs_from (i + 1) es) s (behind_none (shortest k) (shortest v) s f)

pub pairs_stop_value : (es : List (DataItem × DataItem)) (i : ℕ) (k v : DataItem) (whole : Option (List ℕ)) (s m : List ℕ) → slice_get es i ≡ Some (k, v) → whole ≡ behind (pairs_from i es) s → behind (shortest k) s ≡ Some m → behind (shortest v) m ≡ None → whole ≡ None
pairs_stop_value es i k v whole s m got e f g =
    e ∙ ap (λ us. behind (shortest_pairs (data_pairs us)) s) (drop_got es i (k, v) got)
    ∙ behind_none (shortest k ++ shortest v) (pairs_from (i + 1) es) s (behind_first (shortest k) (shortest v) s m f ∙ g)

pub drop_all : {X : Type 0} (xs : List X) → drop (length xs) xs ≡ []
drop_all [] = refl
drop_all (x ∷ xs) = drop_all xs

-- bytes that are over don't begin with what is left of a front
pub behind_ended : (front : List ℕ) (i : ℕ) (whole : Option (List ℕ)) (s : List ℕ) → i < length front → length s < 1 → whole ≡ behind (drop i front) s → None ≡ whole
behind_ended front i whole s below over e = sym (e ∙ behind_short (drop i front) s (omega (arith, length-drop i front)))

pub ruleset behinds = (views, behind_first, behind_none, behind_short, item_count-data_items, pair_count-data_pairs, got_below, items_depth_got, pairs_depth_got, drop_all)
