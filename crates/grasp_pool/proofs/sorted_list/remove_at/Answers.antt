use Rattle.std.proofs.Common.{rules, ◌≡◌, ◌<◌, ◌∙◌, ap, arith, length, slice_index_or}
use Rattle.std.proofs.lemmas.List.{get_or_default}
use Rattle.grasp_types.specs.Prefix.{AddressBlock as Prefix}
use Rattle.grasp_pool.proofs.Equal.{remove_is}
use Rattle.grasp_pool.proofs.sorted_list.remove_at.Goals as goal

pub returns-clause-is : goal.returns-clause-is
returns-clause-is c = c.remove.ensures.items ∙ remove_is c.args.list.now.items c.args.i c.remove.result c.requires.rising (search rules) c.remove.ensures.value

pub returns-clause-below : goal.returns-clause-below
returns-clause-below c = λ k d lt.
    let old = c.args.list.now.items
    in let within : c.args.i < length old = search rules
    in let same : slice_index_or c.remove.new.self.items k d ≡ slice_index_or old k d = c.remove.ensures.by_index.0 k d lt
    in let up : (slice_index_or old k d).address < (slice_index_or old c.args.i d).address = c.requires.rising k c.args.i d lt within
    in let s : (slice_index_or c.remove.new.self.items k d).address ≡ (slice_index_or old k d).address = ap (λ (v : Prefix). v.address) same
    in let t : c.remove.result.address ≡ (slice_index_or old c.args.i d).address
    = ap (λ (v : Prefix). v.address) (c.remove.ensures.value ∙ get_or_default old c.args.i c.remove.result d within)
    in omega arith
