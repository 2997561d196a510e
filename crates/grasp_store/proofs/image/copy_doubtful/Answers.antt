use Rattle.std.proofs.Common.{rules, arith, ◌≡◌, ◌<◌, ◌++◌, ◌∷◌, [], ◌∙◌, List, Some, ap, sym, length, slice_get}
use Rattle.std.proofs.lemmas.List.{take_more}
use Rattle.std.proofs.lemmas.Option.{get_or_from_slice_get, slice_get_within}
use Rattle.grasp_types.specs.Prefix.{AddressBlock as Prefix}
use Rattle.grasp_store.proofs.image.copy_doubtful.Goals as goal

pub loop-i-preserved : goal.loop-i-preserved
loop-i-preserved c =
    let at : slice_get c.args.pool.now.doubtful c.loop-i.i ≡ Some c.in-Some.prefix = search rules
    in let within : c.loop-i.i < length c.args.pool.now.doubtful = slice_get_within c.args.pool.now.doubtful c.loop-i.i c.in-Some.prefix at
    in let pushed : c.push.new.self.items ≡ c.loop-i.list.items ++ c.in-Some.prefix ∷ [] = search rules
    in record {
      is = pushed ∙ ap (λ (ps : List Prefix). ps ++ c.in-Some.prefix ∷ []) c.loop-i.invariant.is
          ∙ ap (λ (p : Prefix). Rattle.std.proofs.Common.take c.loop-i.i c.args.pool.now.doubtful ++ p ∷ []) (sym (get_or_from_slice_get c.args.pool.now.doubtful c.loop-i.i c.in-Some.prefix c.in-Some.prefix at))
          ∙ sym (take_more c.args.pool.now.doubtful c.loop-i.i c.in-Some.prefix within);
      within = omega (arith, within);
      memory = search rules;
    }
