-- Each change of a pool keeps what is true of every pool.
use Rattle.std.proofs.Common.{◌≡◌, ℕ, ◌+◌, ◌≤◌, ◌↔◌, inl, inr, List, length, Contains, sym, ◌∙◌, subst, arith}
use Rattle.grasp_types.specs.Prefix.{AddressBlock as Prefix, span_of}
use Rattle.grasp_pool.specs.Spans.{IsValid}
use Rattle.grasp_pool.specs.Canonical.{IsRising, IsFreeIn, IsTidy, IsLowestFree}
use Rattle.grasp_pool.specs.Holdings.{Holding, IsFree, IsListed, PoolApart, Reserves, GivesBack, Confirms, Doubts, Settles, Gains}
use Rattle.grasp_pool.proofs.Addresses.{first_in}
use Rattle.grasp_pool.proofs.Dyadic.{same_prefix}
use Rattle.grasp_pool.proofs.Listed.{reserves_apart, back_apart, settles_apart, gains_apart, confirms_apart, doubts_apart}
use Rattle.grasp_pool.proofs.Maximal.{clean_canonical}
use Rattle.grasp_pool.proofs.Unique.{one_canonical, same_members}
use Rattle.grasp_pool.specs.Parts.{ApartFrom}
use Rattle.grasp_pool.specs.Pools.{IsPool}

-- what is listed is apart from the free prefixes
pub listed_apart : (h : Holding) → IsPool h → (p : Prefix) → IsListed h p → ApartFrom h.free p
listed_apart h pool p l q k a i j = pool.held p a l j (q, k, i)

pub apart_of : (h : Holding) → IsPool h → PoolApart h
apart_of h pool = record { held = pool.held; listed = pool.apart; once = pool.once }

module _ (old new : Holding) (p : Prefix) (pool : IsPool old) where
  pub back_pool : GivesBack old new p → IsTidy new.free → IsRising new.reserved → (length new.free + length new.reserved) + length new.doubtful ≤ 4096 → IsPool new
  back_pool g tidy rising few =
      let a : PoolApart new = back_apart old new p (apart_of old pool) g
      in record {
        free = tidy;
        reserved = rising;
        doubtful = subst IsRising (sym g.doubtful) pool.doubtful;
        valid = λ q l. elim l [ inl h ↦ pool.valid q (inl ((g.reserved q).0 h).0) | inr h ↦ pool.valid q (inr (subst (λ xs. Contains xs q) g.doubtful h)) ];
        held = a.held;
        apart = a.listed;
        once = a.once;
        few = few;
      }

  pub taken_pool : Reserves old new p → IsValid p → IsTidy new.free → IsRising new.reserved → (length new.free + length new.reserved) + length new.doubtful ≤ 4096 → IsPool new
  taken_pool g v tidy rising few =
      let a : PoolApart new = reserves_apart old new p (apart_of old pool) g
      in record {
        free = tidy;
        reserved = rising;
        doubtful = subst IsRising (sym g.doubtful) pool.doubtful;
        valid = λ q l. elim l [
          | inl h ↦ elim ((g.reserved q).0 h) [ inl h' ↦ pool.valid q (inl h') | inr e ↦ subst IsValid (sym e) v ]
          | inr h ↦ pool.valid q (inr (subst (λ xs. Contains xs q) g.doubtful h))
        ];
        held = a.held;
        apart = a.listed;
        once = a.once;
        few = few;
      }

  pub settled_pool : Settles old new p → IsTidy new.free → IsRising new.doubtful → (length new.free + length new.reserved) + length new.doubtful ≤ 4096 → IsPool new
  settled_pool g tidy rising few =
      let a : PoolApart new = settles_apart old new p (apart_of old pool) g
      in record {
        free = tidy;
        reserved = subst IsRising (sym g.reserved) pool.reserved;
        doubtful = rising;
        valid = λ q l. elim l [ inl h ↦ pool.valid q (inl (subst (λ xs. Contains xs q) g.reserved h)) | inr h ↦ pool.valid q (inr ((g.doubtful q).0 h).0) ];
        held = a.held;
        apart = a.listed;
        once = a.once;
        few = few;
      }

  pub gained_pool : Gains old new p → IsTidy new.free → (length new.free + length new.reserved) + length new.doubtful ≤ 4096 → IsPool new
  gained_pool g tidy few =
      let a : PoolApart new = gains_apart old new p (apart_of old pool) g
      in record {
        free = tidy;
        reserved = subst IsRising (sym g.reserved) pool.reserved;
        doubtful = subst IsRising (sym g.doubtful) pool.doubtful;
        valid = λ q l. elim l [
          | inl h ↦ pool.valid q (inl (subst (λ xs. Contains xs q) g.reserved h))
          | inr h ↦ pool.valid q (inr (subst (λ xs. Contains xs q) g.doubtful h))
        ];
        held = a.held;
        apart = a.listed;
        once = a.once;
        few = few;
      }

  pub confirmed_pool : Confirms old new p → IsRising new.reserved → (length new.free + length new.reserved) + length new.doubtful ≤ 4096 → IsPool new
  confirmed_pool g rising few =
      let a : PoolApart new = confirms_apart old new p (apart_of old pool) g
      in record {
        free = subst IsTidy (sym g.free) pool.free;
        reserved = rising;
        doubtful = subst IsRising (sym g.doubtful) pool.doubtful;
        valid = λ q l. elim l [ inl h ↦ pool.valid q (inl ((g.reserved q).0 h).0) | inr h ↦ pool.valid q (inr (subst (λ xs. Contains xs q) g.doubtful h)) ];
        held = a.held;
        apart = a.listed;
        once = a.once;
        few = few;
      }

  pub doubted_pool : Doubts old new p → IsRising new.reserved → IsRising new.doubtful → (length new.free + length new.reserved) + length new.doubtful ≤ 4096 → IsPool new
  doubted_pool g rising rising' few =
      let a : PoolApart new = doubts_apart old new p (apart_of old pool) g
      in record {
        free = subst IsTidy (sym g.free) pool.free;
        reserved = rising;
        doubtful = rising';
        valid = λ q l. elim l [
          | inl h ↦ pool.valid q (inl ((g.reserved q).0 h).0)
          | inr h ↦ elim ((g.doubtful q).0 h) [ inl h' ↦ pool.valid q (inr h') | inr e ↦ pool.valid q (inl (subst (Contains old.reserved) (sym e) g.was)) ]
        ];
        held = a.held;
        apart = a.listed;
        once = a.once;
        few = few;
      }

-- no doubtful prefix has the address of a reserved one
pub doubtful_address : (h : Holding) → IsPool h → (p : Prefix) → Contains h.reserved p → (q : Prefix) → Contains h.doubtful q → ¬ (q.address ≡ p.address)
doubtful_address h pool p r q d e = pool.apart q p (λ same. pool.once p r (subst (Contains h.doubtful) same d)) (inr d) (inl r) q.address (first_in q) (subst (span_of p) (sym e) (first_in p))

-- no reserved prefix has the address of a free one
pub reserved_address : (h : Holding) → IsPool h → (p : Prefix) → IsFreeIn h.free p → (q : Prefix) → Contains h.reserved q → ¬ (q.address ≡ p.address)
reserved_address h pool p f q r e = pool.held q p.address (inl r) (subst (span_of q) e (first_in q)) (f.all p.address (first_in p))

-- a pool is its three sets
pub same_pool : (g h : Holding) → IsPool g → IsPool h → ((a : ℕ) → IsFree g a ↔ IsFree h a)
    → ((q : Prefix) → Contains g.reserved q ↔ Contains h.reserved q) → ((q : Prefix) → Contains g.doubtful q ↔ Contains h.doubtful q) → g ≡ h
same_pool g h p q free reserved doubtful =
    let e : g.free ≡ h.free = one_canonical g.free h.free (clean_canonical g.free p.free.clean p.free.rising) (clean_canonical h.free q.free.clean q.free.rising) free
    in let r : g.reserved ≡ h.reserved = same_members g.reserved h.reserved p.reserved q.reserved (λ x. (reserved x).0) (λ x. (reserved x).1)
    in let d : g.doubtful ≡ h.doubtful = same_members g.doubtful h.doubtful p.doubtful q.doubtful (λ x. (doubtful x).0) (λ x. (doubtful x).1)
    in λ i. record { free = e i; reserved = r i; doubtful = d i }

pub same_least : (ps : List Prefix) (n : ℕ) (p q : Prefix) → IsLowestFree ps n p → IsLowestFree ps n q → p ≡ q
same_least ps n p q a b =
    let x : p.address ≤ q.address = a.least q b.free b.length
    in let y : q.address ≤ p.address = b.least p a.free a.length
    in same_prefix p q (omega arith) (a.length ∙ sym b.length)
