-- The nodes of a link, one after another.
use Rattle.std.proofs.Common.{◌≡◌, ℕ, ◌+◌, ◌<◌, ◌≤◌, Bool, true, false, eqb, ◌||◌, List, [], ◌∷◌, ◌++◌, length, map, take, Some, None, refl, sym, ap, subst, ◌∙◌, append_assoc, arith, length-append}
use Rattle.std.specs.Prelude.{◌≢◌, All, AllPairs, decimal}
use Rattle.std.specs.List.{slice_get, AllByRecursion}
use Rattle.std.proofs.lemmas.Bool.{eqb-true, eq-eqb, or_parts}
use Rattle.std.proofs.lemmas.List.{map-append, take_all}
use Rattle.std.proofs.lemmas.List.Elements.{All-head, All-tail, All-from_recursion, filter-append}
use Rattle.std.proofs.lemmas.Option.{slice_get_within, get_or_from_slice_get}
use Rattle.grasp_cbor.proofs.Places.{take_got}
use Rattle.grasp_model_network.specs.Plans.{IsNode, IsGoodLink}
use Rattle.grasp_model_network.specs.Setting.{is_on, lines_of}
use Rattle.grasp_script.specs.Grammar.{node_of}
use Rattle.grasp_script.proofs.HeaderLaws.{one_number}
use Rattle.grasp_script.proofs.Lists.{all_push, pairs_front, pairs_last, pairs_push}
use Rattle.grasp_script.proofs.WordReaders.{read_node}

-- ---- being on a link

same_is : (k : ℕ) → eqb k k ≡ true
same_is k = eq-eqb k k refl

off : (k : ℕ) (ms : List ℕ) → is_on k ms ≡ false → AllByRecursion (λ m. m ≢ k) ms
off k [] e = tt
off k (m ∷ ms) e =
    let t = or_parts (eqb m k) (is_on k ms) e in
    (λ same. let z : true ≡ false = sym (same_is k) ∙ ap (λ (n : ℕ). eqb n k) (sym same) ∙ t.0 in cc, off k ms t.1)

pub not_on : (k : ℕ) (ms : List ℕ) → is_on k ms ≡ false → All (λ m. m ≢ k) ms
not_on k ms e = All-from_recursion (λ m. m ≢ k) ms (off k ms e)

on_first : (P : ℕ → Type 0) (k m : ℕ) (ms : List ℕ) (b : Bool) → eqb m k ≡ b → is_on k (m ∷ ms) ≡ true → P m → (is_on k ms ≡ true → P k) → P k
on_first P k m ms true t e p later = subst P (eqb-true m k t) p
on_first P k m ms false t e p later = later (ap (λ (c : Bool). c || is_on k ms) (sym t) ∙ e)

pub on_some : (P : ℕ → Type 0) (k : ℕ) (ms : List ℕ) → All P ms → is_on k ms ≡ true → P k
on_some P k [] h e = absurd cc
on_some P k (m ∷ ms) h e = on_first P k m ms (eqb m k) refl e (All-head P m ms h) (λ later. on_some P k ms (All-tail P m ms h) later)

first_on : (m : ℕ) (ms : List ℕ) → is_on m (m ∷ ms) ≡ true
first_on m ms = ap (λ (c : Bool). c || is_on m ms) (same_is m)

later_on : (k m : ℕ) (ms : List ℕ) (b : Bool) → eqb m k ≡ b → is_on k ms ≡ true → is_on k (m ∷ ms) ≡ true
later_on k m ms true t e = ap (λ (c : Bool). c || is_on k ms) t
later_on k m ms false t e = ap (λ (c : Bool). c || is_on k ms) t ∙ e

all_on : (P : ℕ → Type 0) (ms : List ℕ) → ((k : ℕ) → is_on k ms ≡ true → P k) → AllByRecursion P ms
all_on P [] h = tt
all_on P (m ∷ ms) h = (h m (first_on m ms), all_on P ms (λ k e. h k (later_on k m ms (eqb m k) refl e)))

pub some_on : (P : ℕ → Type 0) (ms : List ℕ) → ((k : ℕ) → is_on k ms ≡ true → P k) → All P ms
some_on P ms h = All-from_recursion P ms (all_on P ms h)

-- ---- the words of a link

-- the node behind these nodes of a link
pub record Split (nodes : ℕ) (m ms : List ℕ) (w : List ℕ) : Type 0 where
  pub node : ℕ
  pub rest : List ℕ
  pub is : IsNode nodes node
  pub word : w ≡ decimal node
  pub parts : m ≡ ms ++ node ∷ rest

split : (nodes : ℕ) → nodes ≤ 255 → (m ms : List ℕ) (w : List ℕ) (ws : List (List ℕ)) → All (IsNode nodes) m → All (IsNode nodes) ms → map decimal m ≡ map decimal ms ++ w ∷ ws → Split nodes m ms w
split nodes few [] [] w ws g h e = absurd cc
split nodes few [] (x ∷ ms) w ws g h e = absurd cc
split nodes few (y ∷ m) [] w ws g h e =
    let word : decimal y ≡ w = cc in
    record { node = y; rest = m; is = All-head (IsNode nodes) y m g; word = sym word; parts = refl }
split nodes few (y ∷ m) (x ∷ ms) w ws g h e =
    let a = All-head (IsNode nodes) y m g in
    let b = All-head (IsNode nodes) x ms h in
    let most : y ≤ nodes = a.most in
    let other : x ≤ nodes = b.most in
    let word : decimal y ≡ decimal x = cc in
    let rest : map decimal m ≡ map decimal ms ++ w ∷ ws = cc in
    let same : y ≡ x = one_number y x (omega arith) (omega arith) word in
    let s = split nodes few m ms w ws (All-tail (IsNode nodes) y m g) (All-tail (IsNode nodes) x ms h) rest in
    record { node = s.node; rest = s.rest; is = s.is; word = s.word; parts = (λ i. same i ∷ s.parts i) }

-- so many nodes of a link were read
pub record MembersRead (nodes : ℕ) (words left : List (List ℕ)) (members : List ℕ) : Type 0 where
  pub parts : words ≡ map decimal members ++ left
  pub each : All (IsNode nodes) members
  pub different : AllPairs (λ a b. a ≢ b) members
  pub few : length members ≤ 17

no_pairs : AllPairs {X = ℕ} (λ a b. a ≢ b) []
no_pairs i j d ij lt = absurd (omega (arith, lt))

pub members_more : (nodes : ℕ) → nodes ≤ 255 → (words left behind : List (List ℕ)) (members : List ℕ) (w : List ℕ) (k : ℕ) → MembersRead nodes words left members → left ≡ w ∷ behind → node_of nodes w ≡ Some k → length members < 17 → is_on k members ≡ false → MembersRead nodes words behind (members ++ k ∷ [])
members_more nodes few words left behind members w k h e n less other =
    let is = (read_node nodes few).only w k n in record {
      parts = h.parts ∙ ap (λ (t : List (List ℕ)). map decimal members ++ t) (e ∙ ap (λ (v : List ℕ). v ∷ behind) is.0) ∙ sym (append_assoc (map decimal members) (decimal k ∷ []) behind) ∙ ap (λ (t : List (List ℕ)). t ++ behind) (sym (map-append decimal members (k ∷ [])));
      each = all_push (IsNode nodes) members k h.each is.1;
      different = pairs_push (λ a b. a ≢ b) members k h.different (not_on k members other);
      few = omega (arith, length-append members (k ∷ []));
    }

module _ (nodes : ℕ) (few : nodes ≤ 255) (words left : List (List ℕ)) (members : List ℕ) (h : MembersRead nodes words left members) (m : List ℕ) (good : IsGoodLink nodes m) (e : words ≡ map decimal m) where
  here : (w : List ℕ) (behind : List (List ℕ)) → left ≡ w ∷ behind → Split nodes m members w
  here w behind l = split nodes few m members w behind good.members h.each (sym e ∙ h.parts ∙ ap (λ (t : List (List ℕ)). map decimal members ++ t) l)

  pub no_node : (w : List ℕ) (behind : List (List ℕ)) → left ≡ w ∷ behind → ¬ (node_of nodes w ≡ None)
  no_node w behind l n =
      let s = here w behind l in
      let found = (read_node nodes few).found s.node s.is in
      absurd (let z = sym n ∙ ap (node_of nodes) s.word ∙ found in cc)

  pub too_many : (w : List ℕ) (behind : List (List ℕ)) → left ≡ w ∷ behind → ¬ (17 ≤ length members)
  too_many w behind l more =
      let s = here w behind l in
      let most = good.most in
      absurd (omega (arith, ap length s.parts, length-append members (s.node ∷ s.rest)))

  pub twice : (w : List ℕ) (behind : List (List ℕ)) (k : ℕ) → left ≡ w ∷ behind → node_of nodes w ≡ Some k → ¬ (is_on k members ≡ true)
  twice w behind k l n on =
      let s = here w behind l in
      let is = (read_node nodes few).only w k n in
      let most : k ≤ nodes = is.1.most in
      let other : s.node ≤ nodes = s.is.most in
      let same : s.node ≡ k = one_number s.node k (omega arith) (omega arith) (sym s.word ∙ is.0) in
      let whole : m ≡ (members ++ s.node ∷ []) ++ s.rest = s.parts ∙ sym (append_assoc members (s.node ∷ []) s.rest) in
      let pairs : AllPairs (λ a b. a ≢ b) (members ++ s.node ∷ []) = pairs_front (λ a b. a ≢ b) (members ++ s.node ∷ []) s.rest (subst (λ (t : List ℕ). AllPairs (λ a b. a ≢ b) t) whole good.different) in
      on_some (λ x. x ≢ s.node) k members (pairs_last (λ a b. a ≢ b) members s.node pairs) on (sym same)

-- ---- one more of a list

pub all_next : {A : Type 0} (P : A → Type 0) (xs : List A) (i : ℕ) (x : A) → slice_get xs i ≡ Some x → All P (take i xs) → P x → All P (take (i + 1) xs)
all_next P xs i x e h p = subst (λ ys. All P ys) (sym (take_got xs i x e)) (all_push P (take i xs) x h p)

pub all_taken : {A : Type 0} (P : A → Type 0) (xs : List A) (i : ℕ) → length xs ≤ i → All P (take i xs) → All P xs
all_taken P xs i le h = subst (λ ys. All P ys) (take_all i xs le) h

pub all_at : {A : Type 0} (P : A → Type 0) (xs : List A) (i : ℕ) (x : A) → slice_get xs i ≡ Some x → All P xs → P x
all_at P xs i x e h = subst P (get_or_from_slice_get xs i x x e) (h i x (slice_get_within xs i x e))

-- ---- links that a node is on

pub links_step : (links : List (List ℕ)) (i : ℕ) (m : List ℕ) (node count new : ℕ) → slice_get links i ≡ Some m → count ≡ length (lines_of node (take i links)) → new ≡ count + length (lines_of node (m ∷ [])) → new ≡ length (lines_of node (take (i + 1) links))
links_step links i m node count new e p q =
    let whole : lines_of node (take (i + 1) links) ≡ lines_of node (take i links) ++ lines_of node (m ∷ []) = ap (lines_of node) (take_got links i m e) ∙ filter-append (is_on node) (take i links) (m ∷ []) in
    omega (arith, p, q, ap length whole, length-append (lines_of node (take i links)) (lines_of node (m ∷ [])))
