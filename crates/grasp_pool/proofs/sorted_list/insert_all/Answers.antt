use Rattle.std.proofs.Common.{rules, ◌≡◌, ◌+◌, ◌∙◌, List, subst, sym}
use Rattle.grasp_types.specs.Prefix.{AddressBlock as Prefix}
use Rattle.grasp_pool.specs.Functions.{add, each}
use Rattle.grasp_pool.proofs.Opening.{IsPut, put_new, put_more, each_next, each_done}
use Rattle.grasp_pool.proofs.sorted_list.insert_all.Goals as goal

pub insert_prefix-requires-clause-is_new : goal.insert_prefix-requires-clause-is_new
insert_prefix-requires-clause-is_new c = put_new c.args.prefixes.now c.requires.disjoint c.loop-prefix.prefix-index c.prefix-item.result c.loop-prefix.list.items c.loop-prefix-test.true
    c.prefix-item.is c.loop-prefix.invariant.so

pub loop-prefix-preserved : goal.loop-prefix-preserved
loop-prefix-preserved c =
    let ps = c.args.prefixes.now
    in let i = c.loop-prefix.prefix-index
    in let p = c.prefix-item.result
    in let old = c.loop-prefix.list.items
    in let e = sym c.insert_prefix.ensures.is
    in record {
      so = subst (λ (xs : List Prefix). IsPut ps (i + 1) xs) e (put_more ps c.requires.disjoint i p old c.loop-prefix-test.true c.prefix-item.is c.loop-prefix.invariant.so);
      is = subst (λ (xs : List Prefix). each add (Rattle.std.proofs.Common.drop (i + 1) ps) xs ≡ each add (Rattle.std.proofs.Common.drop i ps) old) e
          (each_next add ps i p old c.loop-prefix-test.true c.prefix-item.is) ∙ c.loop-prefix.invariant.is;
      capacity = search rules;
    }

pub returns-clause-is : goal.returns-clause-is
returns-clause-is c = sym (each_done add c.args.prefixes.now c.loop-prefix.prefix-index c.loop-prefix.list.items (search rules)) ∙ c.loop-prefix.invariant.is
