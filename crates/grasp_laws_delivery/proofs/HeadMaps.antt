-- Streams of which one gets a number or a far end.
use Rattle.std.proofs.Common.{◌≡◌, ◌≢◌, ◌+◌, ◌==◌, inl, inr, refl, sym, ap, ◌∙◌, subst, arith, ℕ, Bool, true, false, cond, List, [], ◌∷◌, map, Option, Some, None}
use Rattle.grasp_model_node.specs.Queue.{Queued}
use Rattle.grasp_model_network.specs.Setting.{Setting}
use Rattle.grasp_model_network.specs.Streams.{StreamEnd}
use Rattle.grasp_laws_delivery.specs.Heads.{Head, has_head_end, HasFar, nears_at}
use Rattle.grasp_laws_delivery.specs.Kept.{HeadWaits, GoodHead}
use Rattle.grasp_laws_delivery.specs.Ready.{Every, HasGoodNumber, HasGoodFar}
use Rattle.grasp_laws_delivery.proofs.EndMaps.{numbered_head, opened_head}
use Rattle.grasp_laws_delivery.proofs.HeadApart.{IsIn}

-- near ends that stay
pub nears_map : (g : Head → Head) → ((h : Head) → (g h).near ≡ h.near) → (node : ℕ) (hs : List Head) → nears_at node (map g hs) ≡ nears_at node hs
nears_map g same node [] = refl
nears_map g same node (h ∷ hs) =
    ap (λ (e : StreamEnd). cond (e.node == node) (e.number ∷ nears_at node (map g hs)) (nears_at node (map g hs))) (same h)
    ∙ ap (λ xs. cond (h.near.node == node) (h.near.number ∷ xs) xs) (nears_map g same node hs)

-- ---- a far end

module _ (e far : StreamEnd) where
  pub opened_near : (h : Head) → (opened_head e far h).near ≡ h.near
  opened_near h = same (has_head_end e h) where
    same : (b : Bool) → (cond b (record h { far = Some far }) h).near ≡ h.near
    same true = refl
    same false = refl

  pub opened_number : (h : Head) → (opened_head e far h).number ≡ h.number
  opened_number h = same (has_head_end e h) where
    same : (b : Bool) → (cond b (record h { far = Some far }) h).number ≡ h.number
    same true = refl
    same false = refl

  pub opened_waits : (node sent : ℕ) (queue : List Queued) (hs : List Head) → Every (HeadWaits node sent queue) hs → Every (HeadWaits node sent queue) (map (opened_head e far) hs)
  opened_waits node sent queue [] w = tt
  opened_waits node sent queue (h ∷ hs) w = (same (has_head_end e h), opened_waits node sent queue hs w.1) where
    same : (b : Bool) → HeadWaits node sent queue (cond b (record h { far = Some far }) h)
    same true = w.0
    same false = w.0

  -- where only streams that weren't opened have the end, what was opened stays so
  pub opened_fars : (hs : List Head) → Every (λ h. has_head_end e h ≡ true → h.far ≡ None) hs → (f : StreamEnd) → HasFar f hs → HasFar f (map (opened_head e far) hs)
  opened_fars [] none f at = absurd at
  opened_fars (h ∷ hs) none f (inl is) = inl (same (has_head_end e h) refl) where
    same : (b : Bool) → has_head_end e h ≡ b → (cond b (record h { far = Some far }) h).far ≡ Some f
    same true has = let no : None ≡ Some f = sym (none.0 has) ∙ is in absurd (cc)
    same false has = is
  opened_fars (h ∷ hs) none f (inr at) = inr (opened_fars hs none.1 f at)

  pub opened_new : (hs : List Head) (h : Head) → IsIn h hs → has_head_end e h ≡ true → HasFar far (map (opened_head e far) hs)
  opened_new [] h at has = absurd at
  opened_new (x ∷ hs) h (inl same) has = inl (ap (λ b. (cond b (record x { far = Some far }) x).far) (ap (has_head_end e) same ∙ has))
  opened_new (x ∷ hs) h (inr at) has = inr (opened_new hs h at has)

  pub opened_good : (s : Setting) (nodes dials : ℕ) (hs : List Head) → Every (λ h. has_head_end e h ≡ true → HasGoodFar s nodes h.number (Some far)) hs → Every (GoodHead s nodes dials) hs
      → Every (GoodHead s nodes dials) (map (opened_head e far) hs)
  opened_good s nodes dials [] new good = tt
  opened_good s nodes dials (h ∷ hs) new good = (same (has_head_end e h) refl, opened_good s nodes dials hs new.1 good.1) where
    same : (b : Bool) → has_head_end e h ≡ b → GoodHead s nodes dials (cond b (record h { far = Some far }) h)
    same true has = record { member = good.0.member; even = good.0.even; dialled = good.0.dialled; opened = new.0 has }
    same false has = good.0

-- ---- a number

module _ (e : StreamEnd) (k : ℕ) where
  pub numbered_near : (h : Head) → (numbered_head e k h).near ≡ h.near
  numbered_near h = same (has_head_end e h) where
    same : (b : Bool) → (cond b (record h { number = Some k }) h).near ≡ h.near
    same true = refl
    same false = refl

  pub numbered_fars : (hs : List Head) (f : StreamEnd) → HasFar f hs → HasFar f (map (numbered_head e k) hs)
  numbered_fars [] f at = absurd at
  numbered_fars (h ∷ hs) f (inl is) = inl (same (has_head_end e h)) where
    same : (b : Bool) → (cond b (record h { number = Some k }) h).far ≡ Some f
    same true = is
    same false = is
  numbered_fars (h ∷ hs) f (inr at) = inr (numbered_fars hs f at)

  -- as many streams have an end as before
  pub numbered_ends : (f : StreamEnd) (h : Head) → has_head_end f (numbered_head e k h) ≡ has_head_end f h
  numbered_ends f h = same (has_head_end e h) where
    same : (b : Bool) → has_head_end f (cond b (record h { number = Some k }) h) ≡ has_head_end f h
    same true = refl
    same false = refl

  -- the streams of another node wait as before
  pub numbered_waits : (node sent : ℕ) (queue : List Queued) (hs : List Head) → Every (λ h. has_head_end e h ≡ true → h.near.node ≢ node) hs → Every (HeadWaits node sent queue) hs
      → Every (HeadWaits node sent queue) (map (numbered_head e k) hs)
  numbered_waits node sent queue [] apart w = tt
  numbered_waits node sent queue (h ∷ hs) apart w = (same (has_head_end e h) refl, numbered_waits node sent queue hs apart.1 w.1) where
    same : (b : Bool) → has_head_end e h ≡ b → HeadWaits node sent queue (cond b (record h { number = Some k }) h)
    same true has = λ at. absurd (apart.0 has at)
    same false has = w.0

  more_good : (dials : ℕ) (number : Option ℕ) → HasGoodNumber dials number → HasGoodNumber (dials + 1) number
  more_good dials None g = tt
  more_good dials (Some j) g = (g.0, omega (arith, g.1))

  pub numbered_good : (s : Setting) (nodes dials : ℕ) (hs : List Head) → k ≡ dials + 1 → Every (λ h. has_head_end e h ≡ true → h.far ≡ None) hs → Every (GoodHead s nodes dials) hs
      → Every (GoodHead s nodes (dials + 1)) (map (numbered_head e k) hs)
  numbered_good s nodes dials [] next none good = tt
  numbered_good s nodes dials (h ∷ hs) next none good = (same (has_head_end e h) refl, numbered_good s nodes dials hs next none.1 good.1) where
    same : (b : Bool) → has_head_end e h ≡ b → GoodHead s nodes (dials + 1) (cond b (record h { number = Some k }) h)
    same true has = record {
      member = good.0.member;
      even = good.0.even;
      dialled = (omega (arith, next), omega (arith, next));
      opened = subst (HasGoodFar s nodes (Some k)) (sym (none.0 has)) tt;
    }
    same false has = record { member = good.0.member; even = good.0.even; dialled = more_good dials h.number good.0.dialled; opened = good.0.opened }
