use Rattle.std.proofs.Common.{rules, ◌≡◌, ◌+◌, ◌<◌, ◌∙◌, List, length, drop, subst, sym}
use Rattle.grasp_types.specs.Prefix.{AddressBlock as Prefix}
use Rattle.grasp_pool.specs.Functions.{each, join}
use Rattle.grasp_pool.specs.Listings.{listed}
use Rattle.grasp_pool.proofs.Opening.{IsUpTo, next_apart, up_more, each_next, each_done}
use Rattle.grasp_pool.proofs.listing.fill.Goals as goal

pub merge_in-requires-clause-apart : goal.merge_in-requires-clause-apart
merge_in-requires-clause-apart c = next_apart (listed c.args.listing.now) c.requires.disjoint c.loop-place.place c.entry_at.result c.loop-place.list (search rules) c.entry_at.ensures.is c.loop-place.invariant.up

pub loop-place-preserved : goal.loop-place-preserved
loop-place-preserved c =
    let ps = listed c.args.listing.now
    in let i = c.loop-place.place
    in let p = c.entry_at.result
    in let h : i < length (listed c.args.listing.now) = search rules
    in let e = sym c.merge_in.ensures
    in record {
      up = subst (λ (xs : List Prefix). IsUpTo ps (i + 1) xs) e (up_more ps c.requires.disjoint i p c.loop-place.list h c.entry_at.ensures.is c.loop-place.invariant.up);
      is = subst (λ (xs : List Prefix). each join (drop (i + 1) ps) xs ≡ each join (drop i ps) c.loop-place.list) e (each_next join ps i p c.loop-place.list h c.entry_at.ensures.is) ∙ c.loop-place.invariant.is;
    }

pub returns : goal.returns
returns c = sym (each_done join (listed c.args.listing.now) c.loop-place.place c.loop-place.list (search rules)) ∙ c.loop-place.invariant.is
