use Rattle.std.proofs.Common.{rules, ◌≡◌, ◌<◌, ◌∙◌, List, length, slice_index_or, Contains, ap, refl, subst}
use Rattle.std.proofs.lemmas.List.{get_or_default}
use Rattle.grasp_types.specs.Prefix.{AddressBlock as Prefix}
use Rattle.grasp_pool.specs.Functions.{buddy_of, without}
use Rattle.grasp_pool.proofs.Equal.{joins_so, joins_not}
use Rattle.grasp_pool.proofs.free_list.FreeList.join_buddy.Goals as goal

pub returns-in-Some-clause-joined : goal.returns-in-Some-clause-joined
returns-in-Some-clause-joined c =
    let ps = c.args.self.now
    in let b = c.halves_of-halves.result.buddy
    in let e : c.deref.result.now ≡ ps = c.deref.ensures.value ∙ c.self.view_is
    in let within : c.in-Some.i < length ps = subst (λ (xs : List Prefix). c.in-Some.i < length xs) e c.in-Some.ensures.0
    in let at : slice_index_or ps c.in-Some.i b ≡ b = subst (λ (xs : List Prefix). slice_index_or xs c.in-Some.i b ≡ b) e c.in-Some.ensures.1
    in let r = c.remove.result
    in let is : r ≡ buddy_of c.args.prefix = c.remove.ensures.value ∙ get_or_default ps c.in-Some.i r b within ∙ at ∙ c.halves_of-halves.ensures.buddy
    in let has : Contains ps b = (c.in-Some.i, within, at)
    in (
      joins_so ps c.args.prefix (search rules) (subst (λ (x : Prefix). Contains ps x) c.halves_of-halves.ensures.buddy has),
      c.halves_of-halves.ensures.parent,
      c.remove.ensures.is ∙ ap (λ (x : Prefix). without x.address ps) is,
    )

pub returns-in-None-clause-alone : goal.returns-in-None-clause-alone
returns-in-None-clause-alone c =
    let e : c.deref.result.now ≡ c.args.self.now = c.deref.ensures.value ∙ c.self.view_is
    in let b = c.halves_of-halves.result.buddy
    in let none : ¬ Contains c.args.self.now b = subst (λ (xs : List Prefix). ¬ Contains xs b) e c.in-None.ensures
    in (joins_not c.args.self.now c.args.prefix (subst (λ (x : Prefix). ¬ Contains c.args.self.now x) c.halves_of-halves.ensures.buddy none), refl)
