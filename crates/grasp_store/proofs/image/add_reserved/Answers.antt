use Rattle.std.proofs.Common.{rules, arith, ◌≡◌, ◌≤◌, ◌<◌, ◌+◌, ◌∙◌, List, None, Some, ap, subst, sym, length, drop, slice_get, slice_index_or, vec_len}
use Rattle.std.proofs.lemmas.Option.{get_or_from_slice_get, slice_get_within}
use Rattle.grasp_types.specs.Prefix.{AddressBlock as Prefix}
use Rattle.grasp_pool.specs.Functions.{add, each}
use Rattle.grasp_pool.proofs.Growing.{add_length}
use Rattle.grasp_pool.proofs.Opening.{each_next, each_done}
use Rattle.grasp_store.proofs.Images.{IsAddable, next_addable, next_new, past_none, reserved_addable}
use Rattle.grasp_store.proofs.image.add_reserved.Goals as goal

pub loop-i-init : goal.loop-i-init
loop-i-init c = record {
  is = ap (each add c.args.pool.now.reserved) c.requires.is_doubtful;
  addable = subst (λ (ds : List Prefix). IsAddable c.args.pool.now.reserved ds) (sym c.requires.is_doubtful) (reserved_addable c.args.pool.now c.requires.pool);
  within = omega arith;
  size = omega (arith, ap length c.requires.is_doubtful);
  memory = c.requires.memory;
}

pub returns-in_default-clause-is : goal.returns-in_default-clause-is
returns-in_default-clause-is c =
    let none : slice_get c.args.pool.now.reserved c.loop-i.i ≡ None = search rules
    in sym (each_done add c.args.pool.now.reserved c.loop-i.i c.loop-i.list.items (past_none c.args.pool.now.reserved c.loop-i.i none)) ∙ c.loop-i.invariant.is

pub insert_prefix-requires-clause-room : goal.insert_prefix-requires-clause-room
insert_prefix-requires-clause-room c =
    let at : slice_get c.args.pool.now.reserved c.loop-i.i ≡ Some c.in-Some.prefix = search rules
    in let within : c.loop-i.i < length c.args.pool.now.reserved = slice_get_within c.args.pool.now.reserved c.loop-i.i c.in-Some.prefix at
    in let long : vec_len c.loop-i.list ≡ length c.loop-i.list.items = search rules
    in omega (arith, within, long, c.loop-i.invariant.size, c.loop-i.invariant.memory, c.requires.pool.few)

pub insert_prefix-requires-clause-is_new : goal.insert_prefix-requires-clause-is_new
insert_prefix-requires-clause-is_new c =
    let at : slice_get c.args.pool.now.reserved c.loop-i.i ≡ Some c.in-Some.prefix = search rules
    in let within : c.loop-i.i < length c.args.pool.now.reserved = slice_get_within c.args.pool.now.reserved c.loop-i.i c.in-Some.prefix at
    in next_new c.args.pool.now.reserved c.loop-i.list.items c.loop-i.i c.in-Some.prefix within (sym (get_or_from_slice_get c.args.pool.now.reserved c.loop-i.i c.in-Some.prefix c.in-Some.prefix at))
    c.loop-i.invariant.addable

pub loop-i-preserved : goal.loop-i-preserved
loop-i-preserved c =
    let rs = c.args.pool.now.reserved
    in let at : slice_get c.args.pool.now.reserved c.loop-i.i ≡ Some c.in-Some.prefix = search rules
    in let within : c.loop-i.i < length c.args.pool.now.reserved = slice_get_within rs c.loop-i.i c.in-Some.prefix at
    in let is : c.in-Some.prefix ≡ slice_index_or c.args.pool.now.reserved c.loop-i.i c.in-Some.prefix = sym (get_or_from_slice_get rs c.loop-i.i c.in-Some.prefix c.in-Some.prefix at)
    in let e = sym c.insert_prefix.ensures.is
    in record {
      is = subst (λ (xs : List Prefix). each add (drop (c.loop-i.i + 1) rs) xs ≡ each add (drop c.loop-i.i rs) c.loop-i.list.items) e (each_next add rs c.loop-i.i c.in-Some.prefix c.loop-i.list.items within is)
          ∙ c.loop-i.invariant.is;
      addable = subst (λ (xs : List Prefix). IsAddable (drop (c.loop-i.i + 1) rs) xs) e (next_addable rs c.loop-i.list.items c.loop-i.i c.in-Some.prefix within is c.loop-i.invariant.addable);
      within = omega (arith, within);
      size = omega (arith, ap length c.insert_prefix.ensures.is, add_length c.in-Some.prefix c.loop-i.list.items, c.loop-i.invariant.size);
      memory = omega (arith, c.insert_prefix.ensures.capacity, c.loop-i.invariant.memory);
    }

pub returns-clause-is : goal.returns-clause-is
returns-clause-is c =
    let end : 4096 ≤ c.loop-i.i = search rules
    in sym (each_done add c.args.pool.now.reserved c.loop-i.i c.loop-i.list.items (omega (arith, end, c.requires.pool.few))) ∙ c.loop-i.invariant.is
