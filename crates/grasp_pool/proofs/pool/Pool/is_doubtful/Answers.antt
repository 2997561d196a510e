use Rattle.std.proofs.Common.{◌≡◌, ◌<◌, ◌↔◌, ◌∙◌, List, Contains, MatchOption, IsTrue, Bool, length, slice_index_or, ap, subst, sym}
use Rattle.grasp_types.specs.Prefix.{AddressBlock as Prefix}
use Rattle.grasp_pool.specs.Holdings.{Holding}
use Rattle.grasp_pool.proofs.Equal.{found_tells}
use Rattle.grasp_pool.proofs.pool.Pool.is_doubtful.Goals as goal

pub returns : goal.returns
returns c =
    let p = c.args.prefix
    in let e : c.deref.result.now ≡ c.args.self.now.doubtful = c.deref.ensures.value ∙ ap (λ (h : Holding). h.doubtful) c.self.view_is
    in let found = subst (λ (xs : List Prefix). MatchOption c.find_prefix.result (¬ Contains xs p) (λ i. (i < length xs) × (slice_index_or xs i p ≡ p))) e c.find_prefix.ensures
    in subst (λ (b : Bool). IsTrue b ↔ Contains c.args.self.now.doubtful p) (sym c.is_some.ensures) (found_tells c.args.self.now.doubtful p c.find_prefix.result found)
