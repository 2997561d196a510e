-- Passes that are given out to agents, and come back.
use Rattle.std.proofs.Common.{◌≡◌, ◌≢◌, ◌⊎◌, inl, inr, sym, ap, subst, ◌∙◌, arith, ℕ, zero, suc, ◌+◌, ◌-◌, ◌<◌, ◌≤◌, ◌==◌, true, false, List, [], ◌∷◌, ◌++◌, append_assoc, length, take, get_or, slice_get, slice_set, slice_index_or, Option, Some}
use Rattle.std.proofs.lemmas.Bool.Decides.{eqb_tells}
use Rattle.std.proofs.lemmas.List.{append-nil, length-set}
use Rattle.std.proofs.lemmas.Option.{slice_get-get_or}
use Rattle.grasp_shared.specs.Handles.{IsPassOf, IsRootOf, view_of, root_view, out_of}
use Rattle.grasp_shared.specs.Passes.{left, right, both}
use Rattle.grasp_shared.specs.declared.shared.Pass.{Pass}
use Rattle.grasp_shared.specs.declared.shared.Root.{Root}
use Rattle.grasp_shared.specs.declared.shared.Shared.{Shared}
use Rattle.grasp_shared.specs.declared.view.View.{View}
use Rattle.grasp_node_main.specs.Sharing.{HasPass, AllHavePasses, Given, RootSplit, SplitsOne, Splits, keep_of, keeps, RootJoined, IsLeft, JoinsOne, Joins}
use Rattle.grasp_node_main.specs.declared.seated_agent.SeatedAgent.{SeatedAgent}
use Rattle.grasp_node_main.proofs.Lists.{set_here, set_elsewhere, read_at}

-- ---- out

-- one pass
pub split_one : (shared : Shared) (a b : Root) (s t : SeatedAgent) (p : Pass) → IsRootOf shared b → IsPassOf shared p → root_view b ≡ left (root_view a) → out_of b ≡ out_of a + 1 → view_of p ≡ right (root_view a)
    → t.pass ≡ Some p → t.worker ≡ s.worker → t.stopped ≡ s.stopped → SplitsOne shared a s b t
split_one shared a b s t p own mine root out pass is worker stopped = record {
  root = record {
    own = own;
    out = out;
    made = ap (λ (v : View). v.made) root;
    mine = ap (λ (v : View). v.mine) root;
    opened = ap (λ (v : View). v.opened) root;
    joined = ap (λ (v : View). v.joined) root;
  };
  given = record {
    pass = p;
    is = is;
    own = mine;
    number_is = ap (λ (v : View). v.number) pass;
    none = ap (λ (v : View). v.mine) pass;
    worker = worker;
    stopped = stopped;
  };
}

root_split_on : (shared : Shared) (m : ℕ) (a b c : Root) → RootSplit shared m a b → RootSplit shared 1 b c → RootSplit shared (m + 1) a c
root_split_on shared m a b c p q = record {
  own = q.own;
  out = omega (arith, p.out, q.out);
  made = omega (arith, p.made, q.made);
  mine = q.mine ∙ p.mine;
  opened = q.opened ∙ p.opened;
  joined = q.joined ∙ p.joined;
}

module _ (i : ℕ) (shared : Shared) (a b c : Root) (olds news : List SeatedAgent) (s t : SeatedAgent) (k : Splits i shared a olds b news) (at : slice_get news i ≡ Some s) (x : SplitsOne shared b s c t) where
  was_here : slice_get olds i ≡ Some s
  was_here = sym (k.waiting i (omega arith)) ∙ at

  given_here : (u v : SeatedAgent) → slice_get olds i ≡ Some u → slice_get (slice_set news i t) i ≡ Some v → Given shared ((root_view a).made + i) u v
  given_here u v atu atv =
      let old : s ≡ u = let e : Some s ≡ Some u = sym was_here ∙ atu in cc in
      let new : t ≡ v = let e : Some t ≡ Some v = sym (set_here news i s t at) ∙ atv in cc in
      let number : (root_view b).made ≡ (root_view a).made + i = k.root.made in
      subst (λ (y : SeatedAgent). Given shared ((root_view a).made + i) y v) old
      (subst (λ (y : SeatedAgent). Given shared ((root_view a).made + i) s y) new (subst (λ n. Given shared n s t) number x.given))

  given_now : (place : ℕ) (u v : SeatedAgent) → place < i + 1 → slice_get olds place ≡ Some u → slice_get (slice_set news i t) place ≡ Some v → Given shared ((root_view a).made + place) u v
  given_now place u v lt atu atv = by (eqb_tells place i) where
    by : (((place == i) ≡ true) × (place ≡ i)) ⊎ (((place == i) ≡ false) × (place ≢ i)) → Given shared ((root_view a).made + place) u v
    by (inl e) = subst (λ j. slice_get olds j ≡ Some u → slice_get (slice_set news i t) j ≡ Some v → Given shared ((root_view a).made + j) u v) (sym e.1) (given_here u v) atu atv
    by (inr e) = k.given place u v (omega (arith, lt, e.1)) atu (sym (set_elsewhere news i place t e.1) ∙ atv)

  waits_now : (place : ℕ) → i + 1 ≤ place → slice_get (slice_set news i t) place ≡ slice_get olds place
  waits_now place le =
      let apart : place ≢ i = omega (arith, le) in
      set_elsewhere news i place t apart ∙ k.waiting place (omega (arith, le))

  -- one more
  pub splits_more : Splits (i + 1) shared a olds c (slice_set news i t)
  splits_more = record {
    root = root_split_on shared i a b c k.root x.root;
    same = length-set news i t ∙ k.same;
    given = given_now;
    waiting = waits_now;
  }

-- ---- back

-- one pass
pub join_one : (shared : Shared) (a b : Root) (s t : SeatedAgent) (p : Pass) → IsRootOf shared b → root_view b ≡ both (root_view a) (view_of p) → out_of b ≡ out_of a - 1
    → s.pass ≡ Some p → t.worker ≡ s.worker → t.stopped ≡ s.stopped → JoinsOne shared a s b t
join_one shared a b s t p own root out is worker stopped = record {
  root = record {
    own = own;
    out = out;
    mine = ap (λ (v : View). v.mine) root;
    opened = ap (λ (v : View). v.opened) root;
    joined = ap (λ (v : View). v.joined) root ∙ sym (ap (λ (o : Option Pass). (root_view a).joined ++ keep_of o) is);
  };
  left = record { worker = worker; stopped = stopped };
}

-- the next one has its pass still
pub waits_with_pass : (i : ℕ) (shared : Shared) (a b : Root) (olds news : List SeatedAgent) (d : SeatedAgent) → Joins i shared a olds b news → AllHavePasses shared olds → i < length news → HasPass shared (slice_index_or news i d)
waits_with_pass i shared a b olds news d k have lt =
    let x = get_or news i d in
    let at : slice_get olds i ≡ Some x = sym (k.waiting i (omega arith)) ∙ slice_get-get_or news i d lt in
    subst (HasPass shared) (read_at olds i x d at) (have i d (omega (arith, lt, k.same)))

keeps_more : (seats : List SeatedAgent) (i : ℕ) (s : SeatedAgent) → slice_get seats i ≡ Some s → keeps (take (suc i) seats) ≡ keeps (take i seats) ++ keep_of s.pass
keeps_more [] i s at = absurd (cc)
keeps_more (x ∷ seats) zero s at = let same : x ≡ s = cc in append-nil (keep_of x.pass) ∙ ap (λ (y : SeatedAgent). keep_of y.pass) same
keeps_more (x ∷ seats) (suc i) s at = ap (λ l. keep_of x.pass ++ l) (keeps_more seats i s at) ∙ sym (append_assoc (keep_of x.pass) (keeps (take i seats)) (keep_of s.pass))

module _ (i : ℕ) (shared : Shared) (a b c : Root) (olds news : List SeatedAgent) (s t : SeatedAgent) (k : Joins i shared a olds b news) (at : slice_get news i ≡ Some s) (x : JoinsOne shared b s c t) where
  stood_here : slice_get olds i ≡ Some s
  stood_here = sym (k.waiting i (omega arith)) ∙ at

  root_joined : RootJoined shared (i + 1) a (keeps (take (i + 1) olds)) c
  root_joined =
      let next : i + 1 ≡ suc i = omega arith in
      let more : keeps (take i olds) ++ keep_of s.pass ≡ keeps (take (i + 1) olds) = sym (ap (λ n. keeps (take n olds)) next ∙ keeps_more olds i s stood_here) in
      record {
        own = x.root.own;
        out = omega (arith, k.root.out, x.root.out);
        mine = x.root.mine ∙ k.root.mine;
        opened = x.root.opened ∙ k.root.opened;
        joined = x.root.joined ∙ ap (λ l. l ++ keep_of s.pass) k.root.joined ∙ append_assoc (root_view a).joined (keeps (take i olds)) (keep_of s.pass) ∙ ap (λ l. (root_view a).joined ++ l) more;
      }

  left_here : (u v : SeatedAgent) → slice_get olds i ≡ Some u → slice_get (slice_set news i t) i ≡ Some v → IsLeft u v
  left_here u v atu atv =
      let old : s ≡ u = let e : Some s ≡ Some u = sym stood_here ∙ atu in cc in
      let new : t ≡ v = let e : Some t ≡ Some v = sym (set_here news i s t at) ∙ atv in cc in
      subst (λ (y : SeatedAgent). IsLeft y v) old (subst (λ (y : SeatedAgent). IsLeft s y) new x.left)

  left_now : (place : ℕ) (u v : SeatedAgent) → place < i + 1 → slice_get olds place ≡ Some u → slice_get (slice_set news i t) place ≡ Some v → IsLeft u v
  left_now place u v lt atu atv = by (eqb_tells place i) where
    by : (((place == i) ≡ true) × (place ≡ i)) ⊎ (((place == i) ≡ false) × (place ≢ i)) → IsLeft u v
    by (inl e) = subst (λ j. slice_get olds j ≡ Some u → slice_get (slice_set news i t) j ≡ Some v → IsLeft u v) (sym e.1) (left_here u v) atu atv
    by (inr e) = k.left place u v (omega (arith, lt, e.1)) atu (sym (set_elsewhere news i place t e.1) ∙ atv)

  stays_now : (place : ℕ) → i + 1 ≤ place → slice_get (slice_set news i t) place ≡ slice_get olds place
  stays_now place le =
      let apart : place ≢ i = omega (arith, le) in
      set_elsewhere news i place t apart ∙ k.waiting place (omega (arith, le))

  -- one more
  pub joins_more : Joins (i + 1) shared a olds c (slice_set news i t)
  joins_more = record {
    root = root_joined;
    same = length-set news i t ∙ k.same;
    left = left_now;
    waiting = stays_now;
  }
