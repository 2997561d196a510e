use Rattle.std.proofs.Common.{rules, ℕ, ◌≡◌, ◌<◌, ◌∙◌, List, Contains, length, slice_index_or, MatchOption, Option, Some, None, subst, sym}
use Rattle.grasp_types.specs.Prefix.{AddressBlock as Prefix}
use Rattle.grasp_pool.specs.Parts.{IsFirstOf, IsNarrow, IsFirstPlace}
use Rattle.grasp_pool.proofs.Indexing.{narrow_all, found_first}
use Rattle.grasp_pool.proofs.free_list.FreeList.first_place.Goals as goal

pub returns-in_default : goal.returns-in_default
returns-in_default c =
    let ps = c.self.inside.entries.items
    in let n = c.args.most
    in let is : slice_index_or c.self.inside.firsts.items n c.index.result.now ≡ None
    = subst (λ (k : ℕ). slice_index_or c.self.inside.firsts.items k c.index.result.now ≡ None) c.from.ensures (sym c.index.ensures ∙ c.in_default.is)
    in subst (λ (xs : List Prefix). IsNarrow xs n (length xs)) c.self.view_is
    (narrow_all ps n (subst (λ (o : Option Prefix). IsFirstOf ps n o) is (c.self.invariant.index.firsts n c.index.result.now (search rules))))

pub returns : goal.returns
returns c =
    let ps = c.self.inside.entries.items
    in let n = c.args.most
    in let p = c.in-Some.first
    in let is : slice_index_or c.self.inside.firsts.items n c.index.result.now ≡ Some p
    = subst (λ (k : ℕ). slice_index_or c.self.inside.firsts.items k c.index.result.now ≡ Some p) c.from.ensures (sym c.index.ensures ∙ c.in-Some.is)
    in let first : IsFirstOf ps n (Some p) = subst (λ (o : Option Prefix). IsFirstOf ps n o) is (c.self.invariant.index.firsts n c.index.result.now (search rules))
    in subst (λ (xs : List Prefix). IsFirstPlace xs n c.find_prefix.result) c.self.view_is
    (found_first ps n p c.find_prefix.result c.self.invariant.rising first
    (subst (λ (xs : List Prefix). MatchOption c.find_prefix.result (¬ Contains xs p) (λ i. (i < length xs) × (slice_index_or xs i p ≡ p))) c.deref.ensures.value c.find_prefix.ensures))
