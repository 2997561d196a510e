use Rattle.std.proofs.Common.{rules, ◌≡◌, List, Contains, subst, sym}
use Rattle.grasp_types.specs.Prefix.{AddressBlock as Prefix}
use Rattle.grasp_pool.specs.Canonical.{IsRising}
use Rattle.grasp_pool.proofs.Words.{IsAdded}
use Rattle.grasp_pool.proofs.Equal.{add_members, add_rising}
use Rattle.grasp_pool.proofs.Indexing.{added_index}
use Rattle.grasp_pool.proofs.free_list.FreeList.insert.Goals as goal

pub insert_prefix-requires-clause-is_new : goal.insert_prefix-requires-clause-is_new
insert_prefix-requires-clause-is_new c = subst (λ (xs : List Prefix). (q : Prefix) → Contains xs q → ¬ (q.address ≡ c.args.prefix.address)) (sym c.self.view_is) c.requires.is_new

pub invariant_of-self : goal.invariant_of-self
invariant_of-self c =
    let ps = c.self.inside.entries.items
    in let is = sym c.insert_prefix.ensures.is
    in record {
      rising = subst IsRising is (add_rising c.args.prefix ps c.self.invariant.rising
          (subst (λ (xs : List Prefix). (q : Prefix) → Contains xs q → ¬ (q.address ≡ c.args.prefix.address)) (sym c.self.view_is) c.requires.is_new));
      index = added_index ps c.insert_prefix.new.list.items c.args.prefix c.self.inside.firsts.items c.note_added.new.firsts.items
          (subst (λ (xs : List Prefix). IsAdded ps xs c.args.prefix) is (add_members c.args.prefix ps)) c.self.invariant.index c.note_added.ensures;
      memory = search rules;
    }
