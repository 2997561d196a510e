-- Sessions that time out, one after the other.
use Rattle.std.proofs.Common.{◌≡◌, ◌≤◌, ℕ, zero, suc, ◌+◌, ◌-◌, false, Option, Some, None, is_some, refl, sym, ap, ◌∙◌, subst, add-one, arith}
use Rattle.grasp_session.specs.Sessions.{expire_reply}
use Rattle.grasp_core.specs.declared.node_core.NodeCore.{NodeCore}
use Rattle.grasp_model_node.specs.Node.{NodeState}
use Rattle.grasp_core.specs.Stands.{NodeStands}
use Rattle.grasp_model_node.specs.Begin.{expired, expire_next}

pub expired_none : (core : NodeCore) (n : NodeState) → NodeStands core n → NodeStands core (expired 0 n)
unfolding expired
expired_none core n h = h

pub expired_more : (core : NodeCore) (k : ℕ) (n : NodeState) → NodeStands core (expire_next (expired k n)) → NodeStands core (expired (k + 1) n)
unfolding expired
expired_more core k n h = rw (add-one k) h

-- where none is due, nothing changes
still : (n : NodeState) → false ≡ is_some (expire_reply n.sessions n.reading) → expire_next n ≡ n
still n e = by_stream (expire_reply n.sessions n.reading) refl where
  by_stream : (o : Option ℕ) → expire_reply n.sessions n.reading ≡ o → expire_next n ≡ n
  by_stream None f = rw f refl
  by_stream (Some stream) f = let k = rw f at e in absurd (cc)

stays : (n m : NodeState) (k j : ℕ) → expired k n ≡ m → expire_next m ≡ m → expired (k + j) n ≡ m
unfolding expired
stays n m k zero e s = let q : k + zero ≡ k = omega arith in ap (λ (i : ℕ). expired i n) q ∙ e
stays n m k (suc j) e s = let q : k + suc j ≡ suc (k + j) = omega arith in ap (λ (i : ℕ). expired i n) q ∙ (ap expire_next (stays n m k j e s) ∙ s)

pub expired_all : (core : NodeCore) (k : ℕ) (n : NodeState) → k ≤ 64 → false ≡ is_some (expire_reply (expired k n).sessions (expired k n).reading) → NodeStands core (expire_next (expired k n)) → NodeStands core (expired 64 n)
expired_all core k n b e h =
    let s = still (expired k n) e in
    let all : expired (k + (64 - k)) n ≡ expired k n = stays n (expired k n) k (64 - k) refl s in
    let sum : k + (64 - k) ≡ 64 = omega arith in
    subst (NodeStands core) (s ∙ (sym all ∙ ap (λ (i : ℕ). expired i n) sum)) h
