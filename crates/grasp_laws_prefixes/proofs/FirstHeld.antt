-- In the first network a node holds the addresses of the roots of its member.
use Rattle.std.proofs.Common.{◌≡◌, sym, ap, ◌∙◌, subst, arith, ℕ, ◌-◌, ◌≤◌, ◌==◌, Bool, true, false, cond, refl, Option, Some, None, option_map, map, slice_get}
use Rattle.std.proofs.lemmas.Bool.{eqb-true}
use Rattle.std.proofs.lemmas.Option.{none-some, slice_get_within, get_or_from_slice_get, slice_get-map}
use Rattle.grasp_pool.specs.Functions.{pool_of}
use Rattle.grasp_pool.specs.Holdings.{Holding, IsFree}
use Rattle.grasp_laws_network.proofs.Begun.{begun_pool}
use Rattle.grasp_laws_network.specs.Authorities.{Holds}
use Rattle.grasp_model_network.specs.GoodSetting.{IsGoodMember, IsGoodSetting}
use Rattle.grasp_model_network.specs.Runs.{first_world}
use Rattle.grasp_model_network.specs.Openings.{first_seat}
use Rattle.grasp_model_network.specs.Setting.{Member, Setting, numbered}
use Rattle.grasp_model_network.specs.World.{seat_at}
use Rattle.grasp_laws_prefixes.proofs.FirstPrefixes.{IsFirst, is_first}
use Rattle.grasp_laws_prefixes.specs.Hands.{IsRootAt, FirstHoldings}

module _ (s : Setting) (good : IsGoodSetting s) where
  member_good : (k : ℕ) (m : Member) → slice_get s.members k ≡ Some m → IsGoodMember good.limit m
  member_good k m at = subst (IsGoodMember good.limit) (get_or_from_slice_get s.members k m m at) (good.members k m (slice_get_within s.members k m at))

  not_zero : (n : ℕ) → 1 ≤ n → (n == 0) ≡ false
  not_zero n least = by_test (n == 0) refl where
    none : (n : ℕ) → 1 ≤ n → n ≡ 0 → ⊥
    none n l e = omega (arith, l, e)

    by_test : (b : Bool) → (n == 0) ≡ b → b ≡ false
    by_test true e = absurd (none n least (eqb-true n 0 e))
    by_test false e = refl

  pub held_root : (node a : ℕ) → Holds (first_world s) node a → IsRootAt s node a
  held_root node a h = from (is_first s node h.seat h.here) where
    from : IsFirst s node h.seat → IsRootAt s node a
    from f = record {
      member = f.member;
      found = ap (λ b. cond b None (slice_get s.members (node - 1))) (not_zero node f.least) ∙ f.stands;
      root = ((member_good (node - 1) f.member f.stands).pool.free a).0 (subst (λ (z : Holding). IsFree z a) f.pool h.free);
    }

  -- the member of a number, and its number isn't 0
  found_at : (node : ℕ) (m : Member) → numbered s.members node ≡ Some m → ((node == 0) ≡ false) × (slice_get s.members (node - 1) ≡ Some m)
  found_at node m found = by_zero (node == 0) refl found where
    by_zero : (b : Bool) → (node == 0) ≡ b → cond b None (slice_get s.members (node - 1)) ≡ Some m → ((node == 0) ≡ false) × (slice_get s.members (node - 1) ≡ Some m)
    by_zero true is f = absurd (none-some m f)
    by_zero false is f = (is, f)

  seat_found : (node : ℕ) (m : Member) → numbered s.members node ≡ Some m → seat_at (first_world s) node ≡ Some (first_seat m)
  unfolding first_world
  seat_found node m found =
      let f = found_at node m found in
      ap (λ b. cond b None (slice_get (map first_seat s.members) (node - 1))) f.0 ∙ (slice_get-map first_seat s.members (node - 1) ∙ ap (λ (o : Option Member). option_map first_seat o) f.1)

  pub root_held : (node a : ℕ) → IsRootAt s node a → Holds (first_world s) node a
  root_held node a r = record {
    seat = first_seat r.member;
    here = seat_found node r.member r.found;
    free = subst (λ (z : Holding). IsFree z a) (sym (begun_pool r.member.plan (pool_of r.member.roots)))
        (((member_good (node - 1) r.member (found_at node r.member r.found).1).pool.free a).1 r.root);
  }

pub first_holdings : FirstHoldings
first_holdings s good node a = (held_root s good node a, root_held s good node a)
