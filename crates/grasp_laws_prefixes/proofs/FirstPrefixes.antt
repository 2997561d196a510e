-- In the first network nothing is offered, and no address is held twice.
use Rattle.std.proofs.Common.{◌≡◌, refl, sym, ap, ◌∙◌, subst, arith, ℕ, ◌-◌, ◌<◌, ◌≤◌, ◌==◌, Bool, true, false, cond, inl, inr, ◌⊎◌, All, List, map, slice_get, slice_index_or, Contains, Some, None}
use Rattle.std.proofs.lemmas.Bool.{eqb-false, cases_order}
use Rattle.std.proofs.lemmas.List.Elements.{All-contains}
use Rattle.std.proofs.lemmas.Option.{none-some, slice_get_within, get_or_from_slice_get}
use Rattle.grasp_pool.specs.Functions.{pool_of}
use Rattle.grasp_pool.specs.Holdings.{Holding, IsFree}
use Rattle.grasp_pool.specs.Roots.{block_of, IsRootAddress}
use Rattle.grasp_pool.specs.Spans.{Apart}
use Rattle.grasp_pool.specs.declared.roots.RootPrefix.{RootPrefix}
use Rattle.grasp_laws_session.proofs.Runs.{none_live}
use Rattle.grasp_session.specs.Says.{IsAt}
use Rattle.grasp_session.specs.Sessions.{Sessions, no_sessions}
use Rattle.grasp_types.specs.Prefix.{AddressBlock as Prefix}
use Rattle.grasp_laws_network.proofs.EachNode.{IsMade, is_made}
use Rattle.grasp_laws_network.proofs.Begun.{begun_pool, begun_sessions}
use Rattle.grasp_model_network.proofs.Facts.{first_reached}
use Rattle.grasp_model_network.specs.GoodSetting.{IsGoodMember, IsGoodSetting, AreDifferent, RootsAreApart}
use Rattle.grasp_model_network.specs.Runs.{first_world}
use Rattle.grasp_model_network.specs.Openings.{first_seat}
use Rattle.grasp_model_network.specs.Setting.{Member, Setting}
use Rattle.grasp_model_network.specs.World.{Seat, Offered, seat_at}
use Rattle.grasp_laws_prefixes.proofs.EntryOffers.{offers_reserved, unsent_reserved}
use Rattle.grasp_laws_prefixes.proofs.Listing.{none_in}
use Rattle.grasp_laws_prefixes.proofs.Standing.{PrefixesStand}
use Rattle.grasp_laws_prefixes.specs.Grounds.{Grounds}
use Rattle.grasp_laws_prefixes.specs.Apart.{HeldApart}

-- a node of the first network is that of its member, with its roots as pool
pub record IsFirst (s : Setting) (node : ℕ) (seat : Seat) : Type 0 where
  pub least : 1 ≤ node
  pub member : Member
  pub stands : slice_get s.members (node - 1) ≡ Some member
  pub made : seat ≡ first_seat member
  pub pool : seat.agent.pool ≡ pool_of member.roots

pub is_first : (s : Setting) (node : ℕ) (seat : Seat) → seat_at (first_world s) node ≡ Some seat → IsFirst s node seat
unfolding first_world
is_first s node seat found = by_zero (node == 0) refl where
  made : (node == 0) ≡ false → IsMade first_seat s.members (node - 1) seat → IsFirst s node seat
  made is m = record {
    least = at_least node (eqb-false node 0 is);
    member = m.of;
    stands = m.stands;
    made = sym m.made;
    pool = ap (λ (z : Seat). z.agent.pool) (sym m.made) ∙ begun_pool m.of.plan (pool_of m.of.roots);
  } where
    at_least : (n : ℕ) → (n ≡ 0 → ⊥) → 1 ≤ n
    at_least n h = omega arith

  by_zero : (b : Bool) → (node == 0) ≡ b → IsFirst s node seat
  by_zero true is = absurd (none-some seat (subst (λ z. cond z None (slice_get (map first_seat s.members) (node - 1)) ≡ Some seat) is found))
  by_zero false is = made is (is_made first_seat s.members (node - 1) seat (subst (λ z. cond z None (slice_get (map first_seat s.members) (node - 1)) ≡ Some seat) is found))

module _ (s : Setting) (good : IsGoodSetting s) where
  member_good : (k : ℕ) (m : Member) → slice_get s.members k ≡ Some m → IsGoodMember good.limit m
  member_good k m at = subst (IsGoodMember good.limit) (get_or_from_slice_get s.members k m m at) (good.members k m (slice_get_within s.members k m at))

  -- an address that a node holds is that of one of its roots
  root_of : (node : ℕ) (seat : Seat) → (f : IsFirst s node seat) → (a : ℕ) → IsFree seat.agent.pool a → IsRootAddress f.member.roots a
  root_of node seat f a free = ((member_good (node - 1) f.member f.stands).pool.free a).0 (subst (λ (h : Holding). IsFree h a) f.pool free)

  roots_apart : (i j : ℕ) (m n : Member) → i < j → slice_get s.members i ≡ Some m → slice_get s.members j ≡ Some n → RootsAreApart m.roots n.roots
  roots_apart i j m n low at there =
      let d : AreDifferent (slice_index_or s.members i m) (slice_index_or s.members j m) = good.different i j m low (slice_get_within s.members j n there) in
      subst (λ (z : Member). RootsAreApart z.roots n.roots) (get_or_from_slice_get s.members i m m at)
      (subst (λ (z : Member). RootsAreApart (slice_index_or s.members i m).roots z.roots) (get_or_from_slice_get s.members j n m there) d.roots)

  not_both : (xs ys : List RootPrefix) (a : ℕ) → RootsAreApart xs ys → IsRootAddress xs a → IsRootAddress ys a → ⊥
  not_both xs ys a apart x y =
      let each : All (λ z. Apart (block_of x.0) (block_of z)) ys = All-contains (λ z. All (λ u. Apart (block_of z) (block_of u)) ys) xs x.0 apart x.1 in
      All-contains (λ z. Apart (block_of x.0) (block_of z)) ys y.0 each y.1 a x.2 y.2

  same_number : (n m : ℕ) → 1 ≤ n → 1 ≤ m → n - 1 ≡ m - 1 → n ≡ m
  same_number n m a b e = omega arith

  first_held : HeldApart (first_world s)
  first_held n m a apart h j = by_order (cases_order (n - 1) (m - 1)) where
    f : IsFirst s n h.seat
    f = is_first s n h.seat h.here

    g : IsFirst s m j.seat
    g = is_first s m j.seat j.here

    by_order : (n - 1 ≡ m - 1) ⊎ ((n - 1 < m - 1) ⊎ (m - 1 < n - 1)) → ⊥
    by_order (inl e) = apart (same_number n m f.least g.least e)
    by_order (inr (inl low)) = not_both f.member.roots g.member.roots a (roots_apart (n - 1) (m - 1) f.member g.member low f.stands g.stands) (root_of n h.seat f a h.free) (root_of m j.seat g a j.free)
    by_order (inr (inr low)) = not_both g.member.roots f.member.roots a (roots_apart (m - 1) (n - 1) g.member f.member low g.stands f.stands) (root_of m j.seat g a j.free) (root_of n h.seat f a h.free)

  none_offered : (o : Offered) → Contains (first_world s).offers o → ⊥
  unfolding first_world
  none_offered o h = none_in o h

  none_settled : (o : Offered) → Contains (first_world s).settled o → ⊥
  unfolding first_world
  none_settled o h = none_in o h

  -- no session was made
  none_made : (node : ℕ) (seat : Seat) → seat_at (first_world s) node ≡ Some seat → seat.core.sessions ≡ no_sessions
  none_made node seat here =
      let f = is_first s node seat here in
      ap (λ (z : Seat). z.core.sessions) f.made ∙ begun_sessions f.member.plan (pool_of f.member.roots)

  -- and nothing is reserved
  pub none_reserved : (node : ℕ) (seat : Seat) → seat_at (first_world s) node ≡ Some seat → (p : Prefix) → Contains seat.agent.pool.reserved p → ⊥
  none_reserved node seat here p h = none_in p (subst (λ (z : Holding). Contains z.reserved p) (is_first s node seat here).pool h)

  pub first_stands : Grounds → PrefixesStand (first_world s)
  first_stands l = record {
    known = record {
      once = λ o p h j e f. absurd (none_offered o h);
      placed = λ o h. absurd (none_offered o h);
      kept = λ o h. absurd (none_offered o h);
      carried = λ o h past. absurd (none_offered o h);
      unsent = λ node seat here p e. absurd (none_reserved node seat here p (unsent_reserved seat.agent p (l.kept s (first_world s) (first_reached s good) node seat here) e));
      offered = λ node seat here present side h p o x own. absurd (none_reserved node seat here p (offers_reserved seat.agent side h p (l.kept s (first_world s) (first_reached s good) node seat here) o));
      gone = λ node seat here x p gone own is_open. absurd (none_in x (subst (λ (z : Sessions). Contains z.gone x) (none_made node seat here) gone));
      ended = λ node seat here past place x p at own is_open. absurd (none_live 64 place x (subst (λ (z : Sessions). IsAt z place x) (none_made node seat here) at));
      settled = λ o h. absurd (none_settled o h);
    };
    held = first_held;
    authorities = record {
      held = λ o h node a i j. none_offered o h.listed;
      others = λ o p h j differ a i k. none_offered o h.listed;
    };
  }
